-- Nothing is shifted out of 1 << e. Assumes nothing.
use mathlib.Core.Path.{ap, ◌∙◌}
use Prim.Native.Nat.{ℕ}
use native.Mathlib.Omega.{arith}
use lib.Dec.{lit<}
use lib.Pow.{shl_exact}
use Rattle.bitset.specs.Code.Members.{has}
use Rattle.bitset.proofs.Digits.{has_one}
use Rattle.bitset.proofs.single.Goals as goal

pub returns : goal.returns
returns c k =
    ap (λ (x : ℕ). has x k) (shl_exact 1 c.args.e 64 (lit< tt) (omega (arith, c.requires))) ∙ has_one c.args.e k
