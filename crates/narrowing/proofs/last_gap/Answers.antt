-- Where dropping the lowest leaves nothing, there is no other. Assumes nothing.
use Prim.Native.Nat.{ℕ}
use mathlib.Core.Path.{◌≡◌, refl, sym, ◌∙◌}
use mathlib.Core.Logic.{inl, inr, by_cases}
use native.Mathlib.Decide.{ℕ_discrete}
use native.Mathlib.Omega.{arith}
use Rattle.bitset.specs.Code.Members.{In}
use Rattle.bitset.proofs.Ends.{lowest}
use Rattle.bitset.proofs.In.{in_dropped, in_below, in_zero}
use Rattle.narrowing.proofs.last_gap.Goals as goal

pub returns-then-drop_lowest-eq0 : goal.returns-then-drop_lowest-eq0
returns-then-drop_lowest-eq0 c =
    let low = lowest c.args.left c.requires.0 c.ranges.left.fits in
    let only : (i : ℕ) → In c.args.left i → i ≡ _
    = λ i t. by_cases (ℕ_discrete i _) (λ q. q) (λ q. in_zero c.if-drop_lowest-eq0.true ((in_dropped low c.drop_lowest.ensures i).1 (t, q))) in
    let h = c.highest.ensures in
    (record { yes = h.member }, omega (arith, h.upto), inr (λ i j t u. only i t ∙ sym (only j u)))

pub returns : goal.returns
returns c = (c.requires.2, in_below c.ranges.gaps.fits c.requires.2, inl refl)
