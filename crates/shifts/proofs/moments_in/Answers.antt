-- `shifts::moments_in` meets its contract: a window that ends before moment d allows none. Assumes nothing.
use native.Mathlib.Omega.{arith}
use Rattle.shifts.proofs.ShiftSets.{moments_none, moments_between}
use Rattle.shifts.proofs.moments_in.Goals as goal

pub returns-then-to-d : goal.returns-then-to-d
returns-then-to-d c = moments_none _ _ (omega (arith, c.shift_window_to-to.ensures.0))

pub returns : goal.returns
returns c =
    let to = c.shift_window_to-to.ensures in
    moments_between _ _ _ (omega arith) c.shift_window_from.ensures.0 (omega arith) c.between.ensures
