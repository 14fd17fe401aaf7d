-- `reading::rows::while_row` meets its contract: one case for each value of the formula. Assumes nothing.
use mathlib.Core.Logic.{⊎_elim}
use Rattle.bitset.proofs.In.{in_none}
use Rattle.reading.proofs.rows.while_row.Goals as goal

pub returns : goal.returns
returns c = in_none (λ e. ⊎_elim (λ h. c.if-guard-eq-FAILS.false h.0) (λ h. c.if-guard-eq-HOLDS.false h.0))
