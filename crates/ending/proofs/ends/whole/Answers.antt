-- `ending::ends::whole` meets its contract. Assumes nothing.
use mathlib.Core.Path.{sym, ◌∙◌}
use Rattle.bitset.proofs.Digits.{has-zero}
use Rattle.ending.proofs.ends.whole.Goals as goal

pub returns-else-all : goal.returns-else-all
returns-else-all c = λ e l. has-zero e ∙ sym c.if-all.false
