-- The invariant: what fits in the set still fits with the begins that are left. Assumes nothing.
use Rattle.std.proofs.Common.{◌≡◌, ℕ, List, length}
use Rattle.keeping.specs.declared.Choice.{Choice}
use Rattle.narrowing.specs.Code.Tables.{BoundsHave}
use Rattle.narrowing.specs.Code.Open.{InDomains}
use Rattle.narrowing.specs.declared.Open.{Open}
use Rattle.narrowing.proofs.bounds.tighten.Given as goal

-- what fits in the set o fits with these members
pub record Left (bounds : List ℕ) (count : ℕ) (o : Open) (members : List Choice) : Type 0 where
  pub four : length members ≡ 4
  pub fits : (bs es : ℕ → ℕ) → BoundsHave count bounds bs es → InDomains count o bs es
      → InDomains count (record { from = o.from; last = o.last; left = o.left; members = members }) bs es

abbrev pub invariant-loop-j : goal.invariant-loop-j
invariant-loop-j l = Left l.bounds l.count l.state l.members
