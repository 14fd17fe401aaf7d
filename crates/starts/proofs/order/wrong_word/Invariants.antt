-- `starts::order::wrong_word` meets its contract. The invariant: the row fits no word before `i`. Assumes nothing.
use lib.ListN.{length}
use Rattle.starts.specs.Rows.{wrong_word}
use Rattle.starts.proofs.Rows.{Tried}
use Rattle.starts.proofs.order.wrong_word.Given as goal

abbrev pub invariant-loop-i : goal.invariant-loop-i
invariant-loop-i l = Tried 6 (wrong_word l.job l.starts) (length l.starts) l.i
