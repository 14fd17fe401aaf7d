-- `sets::tables::own_row` meets its contract. Assumes nothing.
use mathlib.Core.Path.{sym, ◌∙◌}
use Rattle.bitset.proofs.Bools.{not_both}
use Rattle.bitset.proofs.In.{in_none}
use Rattle.sets.proofs.tables.own_row.Goals as goal

pub returns-then-not-has : goal.returns-then-not-has
returns-then-not-has c = in_none (λ e h. not_both (rw c.pair_at.ensures h.4.yes) (sym c.has.ensures ∙ c.if-not-has.true))
