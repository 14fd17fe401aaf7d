-- The moments at which each action starts, by one start. Assumes nothing.
use mathlib.Core.Bool.{◌&&◌}
use mathlib.Core.Path.{◌≡◌}
use Prim.Native.Nat.{ℕ}
use lib.Dec.{eqb}
use Rattle.bitset.specs.Code.Members.{has, IsSetOf}
use Rattle.words.specs.Fields.{start_moment, start_action}
use Rattle.words.proofs.Choices.{eqb_swap}
use Rattle.theory.specs.Trajectory.{is_start_of}

-- a start of action x at moment u
pub start_passes : (s : ℕ) {x u : ℕ} (single : ℕ) → x ≡ start_action s → u ≡ start_moment s → IsSetOf single (λ t. eqb t u)
    → (a t : ℕ) → is_start_of a t s ≡ (eqb a x && has single t)
start_passes s {x} {u} single ex eu one a t = rw (one t, ← ex, ← eu, eqb_swap a x, eqb_swap t u)
