-- `trial::new_trial` meets its contract: moment 0, and no starts. Assumes nothing.
use mathlib.Core.Path.{refl}
use Prim.Native.Nat.{ℕ}
use native.Mathlib.Omega.{arith}
use lib.ListN.{length-replicate}
use Rattle.trial.proofs.new_trial.Goals as goal

pub returns : goal.returns
returns c = (refl, record { size = length-replicate {A = ℕ} 4096 0; few = omega arith; soon = omega arith })
