-- `starts::order::wrong_word` meets its contract. The invariant: the row fits no word before `i`. Assumes nothing.
use mathlib.Core.Bool.{not}
use mathlib.Core.Path.{ap}
use native.Mathlib.Omega.{arith}
use Rattle.starts.specs.Rows.{wrong_word}
use Rattle.starts.proofs.Rows.{tried_start, tried_more, tried_found, tried_end}
use Rattle.starts.proofs.order.wrong_word.Goals as goal

pub loop-i-init : goal.loop-i-init
loop-i-init c = tried_start

pub returns-then-not-is_start-is_above : goal.returns-then-not-is_start-is_above
unfolding wrong_word
returns-then-not-is_start-is_above c =
    rw c.refuse.ensures
    (tried_found c.loop-i.invariant (omega arith) (omega arith)
    (rw (← c.is_start.ensures, ← c.is_above.ensures) (ap not c.if-not-is_start-is_above.true)))

pub loop-i-preserved : goal.loop-i-preserved
unfolding wrong_word
loop-i-preserved c =
    tried_more c.loop-i.invariant (omega arith)
    (rw (← c.is_start.ensures, ← c.is_above.ensures) (ap not c.if-not-is_start-is_above.false))

pub returns : goal.returns
returns c = tried_end c.loop-i.invariant (omega arith)
