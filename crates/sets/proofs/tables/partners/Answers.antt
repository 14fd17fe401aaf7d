-- `sets::tables::partners` meets its contract. The invariant: a begin with which both may end is one of r's, or one that is left. Assumes
-- nothing.
use Prim.Native.Nat.{ℕ}
use mathlib.Core.Path.{◌≡◌, subst}
use mathlib.Core.Logic.{inl, inr, by_cases, ⊎_elim}
use mathlib.Core.List.{List}
use native.Mathlib.Decide.{ℕ_discrete}
use Rattle.bitset.specs.Code.Members.{In}
use Rattle.bitset.proofs.Bools.{not_both}
use Rattle.bitset.proofs.In.{in_without, in_zero}
use Rattle.keeping.specs.Code.Tables.{pair_at}
use Rattle.sets.proofs.tables.partners.Goals as goal

-- where y is m
begun-at : (t : List ℕ) (i j : ℕ) {x y m : ℕ} → y ≡ m → In (pair_at t i j y) x → In (pair_at t i j m) x
begun-at t i j {x} k = subst (λ (y : ℕ). In (pair_at t i j y) x) k

pub returns-then-pair_at-eq0 : goal.returns-then-pair_at-eq0
returns-then-pair_at-eq0 c = λ y d e t p q r s u. in_zero {e = d} c.if-pair_at-eq0.true (rw c.pair_at.ensures p)

pub loop-y-preserved : goal.loop-y-preserved
loop-y-preserved c =
    let m = c.in-Some.y in
    let turn = c.in-Some.ensures.steps in
    let a = c.args in
    let drop = in_without (turn.1.rest m turn.0) in
    λ y d e t p q r s u. ⊎_elim inl (λ v. by_cases (ℕ_discrete y m)
    (λ k. not_both (c.together.ensures d e p (begun-at a.tables.now.ends a.i a.j k q) (begun-at a.tables.now.ends a.j a.j k r) s (begun-at a.tables.now.goes a.j a.i k u)) c.if-together.false)
    (λ k. inr ((drop y).1 (v, k)))) (c.loop-y.invariant y d e t p q r s u)

pub returns : goal.returns
returns c = λ y d e t p q r s u. ⊎_elim (λ v. v) (in_zero c.in-None.ensures.steps.0) (c.loop-y.invariant y d e t p q r s u)
