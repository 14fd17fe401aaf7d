-- The loop of `files::decode`: at i the first i words of the bytes stand at the front of out. Assumes nothing.
use Rattle.std.proofs.Common.{◌≡◌}
use Rattle.text.specs.Files.{words_of}
use Rattle.text.proofs.Bytes.{over}
use Rattle.text.proofs.files.decode.Given as goal

abbrev pub invariant-loop-i : goal.invariant-loop-i
invariant-loop-i l = l.out ≡ over l.initial.out l.i (words_of l.bytes)
