-- `extract::emit` meets its contract: the buffer has room for every reading of the root, by the length bound. Assumes nothing.
use mathlib.Core.Path.{refl}
use Rattle.extract.specs.Code.Source.{unseen_of}
use Rattle.extract.proofs.Whole.{emit_writable, emit_emitted}
use Rattle.extract.proofs.emit.Goals as goal

pub write_reading-requires : goal.write_reading-requires
write_reading-requires c = let (starts, durations, s) = c.requires in (unseen_of c.args.source.now starts durations, emit_writable s)

pub returns : goal.returns
returns c = λ starts durations s. emit_emitted s refl (c.write_reading.ensures (unseen_of c.args.source.now starts durations) (emit_writable s))
