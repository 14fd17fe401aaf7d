-- The digit that is shifted down to the lowest place is masked out. Assumes nothing.
use mathlib.Core.Path.{ap}
use Prim.Native.Nat.{ℕ, ◌/◌, ◌^◌}
use lib.Dec.{eqb}
use lib.Bits.{and_mask}
use Rattle.bitset.specs.Code.Members.{has}
use Rattle.bitset.proofs.has.Goals as goal

pub returns : goal.returns
unfolding has
returns c = ap (λ (n : ℕ). eqb n 1) (and_mask (c.args.x / 2 ^ c.args.e) 1)
