-- The invariant: of the members before i, those that cover a gap are left. Assumes nothing.
use Rattle.std.proofs.Common.{ℕ, ◌<◌, ◌≤◌}
use Rattle.bitset.specs.Code.Members.{In}
use Rattle.narrowing.specs.Code.Open.{InDomains}
use Rattle.narrowing.specs.declared.Open.{Open}
use Rattle.narrowing.proofs.gaps.Given as goal

-- g is a gap, as far as the members before i go
pub record Gap (i : ℕ) (o : Open) (bs es : ℕ → ℕ) (g : ℕ) : Type 0 where
  pub after : o.from ≤ g
  pub upto : g ≤ es o.last
  pub left : (j : ℕ) → j < i → bs j ≤ g → g ≤ es j → In o.left j

abbrev pub invariant-loop-i : goal.invariant-loop-i
invariant-loop-i l = (g : ℕ) (bs es : ℕ → ℕ) → In l.r g → InDomains l.count l.state bs es → Gap l.i l.state bs es g
