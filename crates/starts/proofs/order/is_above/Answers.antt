-- `starts::order::is_above` meets its contract, by the test of the position. Assumes nothing.
use borrow.Author.Tests.{eq-eqb, ne_eqb}
use Rattle.starts.proofs.order.is_above.Goals as goal

pub returns-then-i-eq0 : goal.returns-then-i-eq0
returns-then-i-eq0 c = rw (eq-eqb _ 0 c.if-i-eq0.true)

pub returns : goal.returns
returns c = rw (ne_eqb _ 0 c.if-i-eq0.false)
