-- `sets::conditions::window` meets its contract. Assumes nothing.
use native.Mathlib.Omega.{arith}
use Rattle.bitset.proofs.In.{in_none}
use Rattle.sets.proofs.conditions.window.Goals as goal

pub returns-then-x-asked : goal.returns-then-x-asked
returns-then-x-asked c = in_none (λ y o. let l = o.0 in omega arith)
