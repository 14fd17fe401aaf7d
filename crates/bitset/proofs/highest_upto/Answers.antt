-- The members of x that are at most e are cut out first: the highest of those is the answer. Assumes nothing.
use Rattle.std.proofs.Common.{ℕ}
use mathlib.Core.Bool.{◌&&◌}
use lib.Dec.{leb}
use Rattle.bitset.specs.Code.Members.{has, IsSetOf}
use Rattle.bitset.proofs.Ends.{none_upto}
use Rattle.bitset.proofs.highest_upto.Goals as goal

-- the members of x that are at most e
is : (x e upto low : ℕ) → IsSetOf upto (λ k. leb k e) → IsSetOf low (λ k. has x k && has upto k) → IsSetOf low (λ k. has x k && leb k e)
is x e upto low u h k = cc (h k, u k)

pub returns-then-low-eq0 : goal.returns-then-low-eq0
returns-then-low-eq0 c = none_upto c.args.x c.args.e c.inter-low.result (is c.args.x c.args.e c.upto.result c.inter-low.result c.upto.ensures c.inter-low.ensures) c.if-low-eq0.true
