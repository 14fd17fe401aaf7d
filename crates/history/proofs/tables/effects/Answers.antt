-- `history::tables::effects` meets its contract. The invariant: the rows of the actions below `a` are stored. Assumes nothing.
use Rattle.history.proofs.Stores.{rows_more}
use Rattle.history.proofs.Moments.{effect-row}
use native.Mathlib.Omega.{arith}
use Rattle.history.proofs.tables.effects.Goals as goal

pub loop-a-preserved : goal.loop-a-preserved
loop-a-preserved c =
    let row = effect-row _ _ (rw c.laws_of.ensures at c.effects_row-row.ensures) in
    rows_more (omega arith) c.loop-a.invariant c.store_row.ensures row
