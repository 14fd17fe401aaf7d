-- `reading::rows::if_row` meets its contract. Assumes nothing.
use mathlib.Core.Logic.{⊎_elim}
use Rattle.bitset.proofs.In.{in_none}
use Rattle.reading.proofs.rows.if_row.Goals as goal

pub returns : goal.returns
returns c = in_none (λ e. ⊎_elim (λ h. c.if-value-eq-HOLDS.false h.0) (λ h. c.if-value-eq-FAILS.false h.0))
