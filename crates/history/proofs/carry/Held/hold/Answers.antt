-- `history::carry::Held::hold` meets its contract. Assumes nothing.
use mathlib.Core.Path.{refl}
use Rattle.words.proofs.Copies.{sets_first}
use Rattle.history.proofs.carry.Held.hold.Goals as goal

pub returns : goal.returns
returns c = (refl, rw c.copy_words.ensures (sets_first _ c.args.starts.now (rw c.args.self.now.size c.requires)))
