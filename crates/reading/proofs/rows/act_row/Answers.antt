-- `reading::rows::act_row` meets its contract. Assumes nothing.
use Rattle.bitset.proofs.Bools.{not_both}
use mathlib.Core.Path.{sym, ◌∙◌}
use native.Mathlib.Omega.{arith}
use Rattle.bitset.proofs.In.{in_none}
use Rattle.reading.proofs.rows.act_row.Goals as goal

pub returns-then-last-b : goal.returns-then-last-b
returns-then-last-b c = in_none (λ e h. omega (arith, h.1, h.2))

pub returns : goal.returns
returns c = in_none (λ e h. not_both h.0 (sym c.has.ensures ∙ c.if-has.false))
