-- `reading::rows::test_row` meets its contract. Assumes nothing.
use Rattle.bitset.proofs.In.{in_none}
use Rattle.reading.proofs.rows.test_row.Goals as goal

pub returns : goal.returns
returns c = in_none (λ e h. c.if-value-eq-HOLDS.false h.0)
