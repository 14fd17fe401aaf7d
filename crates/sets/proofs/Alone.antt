-- A set of one member begins and ends where the member does. Assumes nothing.
use Prim.Native.Nat.{ℕ, ◌≤◌, ◌<◌}
use mathlib.Core.Path.{◌≡◌, subst}
use native.Mathlib.Nat.{le_refl}
use native.Mathlib.Omega.{arith}
use lib.ListN.{get_or}
use Rattle.words.specs.Fields.{condition_i, condition_j}
use Rattle.sets.specs.Set.{TaskSet, member_count, MetAt}
use Rattle.sets.specs.Code.Set.{member, SetRule, Formed}
use Rattle.sets.specs.Code.Rows.{Placed}

-- begins and ends that are the same for each member
placed_as : {s : TaskSet} {R : ℕ → ℕ → ℕ → Type 0} {b e : ℕ} {bs es bs' es' : ℕ → ℕ} → Formed s → ((i : ℕ) → i < member_count s → bs i ≡ bs' i)
    → ((i : ℕ) → i < member_count s → es i ≡ es' i) → Placed s R b e bs es → Placed s R b e bs' es'
placed_as {s} {R} {b} {e} {bs} {es} {bs'} {es'} formed p q h = record {
  reads = λ i l. subst (λ (x : ℕ). R (member s i) (bs' i) x) (q i l) (subst (λ (x : ℕ). R (member s i) x (es i)) (p i l) (h.reads i l));
  placing = record {
    onward = h.placing.onward;
    within = h.placing.within;
    inside = λ i l. let o = h.placing.inside i l in (omega (arith, p i l), omega (arith, p i l, q i l), omega (arith, q i l));
    covers = λ t g u. let k = h.placing.covers t g u in (k.0, k.1, omega (arith, k.2, p k.0 k.1), omega (arith, k.3, q k.0 k.1));
    met = λ c l.
        let w = get_or s.conditions c 0 in
        let n = formed.named c l in
        subst (λ (x : ℕ). MetAt s.value s.last w (bs' (condition_i w)) (es' (condition_i w)) x) (p (condition_j w) n.1)
        (subst (λ (x : ℕ). MetAt s.value s.last w (bs' (condition_i w)) x (bs (condition_j w))) (q (condition_i w) n.0)
        (subst (λ (x : ℕ). MetAt s.value s.last w x (es (condition_i w)) (bs (condition_j w))) (p (condition_i w) n.0) (h.placing.met c l)));
  };
}

module _ {s : TaskSet} {R : ℕ → ℕ → ℕ → Type 0} {b e : ℕ} (one : member_count s ≡ 1) (r : SetRule s R b e) where
  begin : (i : ℕ) → i < member_count s → r.begins i ≡ b
  begin i l =
      let k = r.placing.covers b (le_refl b) r.placing.onward in
      let q : k.0 ≡ i = omega (arith, one, l, k.1) in
      let g = subst (λ (j : ℕ). r.begins j ≤ b) q k.2 in
      omega (arith, g, (r.placing.inside i l).0)

  end : (i : ℕ) → i < member_count s → r.ends i ≡ e
  end i l =
      let k = r.placing.covers e r.placing.onward (le_refl e) in
      let q : k.0 ≡ i = omega (arith, one, l, k.1) in
      let g = subst (λ (j : ℕ). e ≤ r.ends j) q k.3 in
      omega (arith, g, (r.placing.inside i l).2)

  pub alone : {bs es : ℕ → ℕ} → Formed s → bs 0 ≡ b → es 0 ≡ e → Placed s R b e bs es
  alone {bs} {es} formed p q = placed_as formed
      (λ i l. let z : 0 ≡ i = omega (arith, one) in omega (arith, begin i l, subst (λ (j : ℕ). bs j ≡ b) z p))
      (λ i l. let z : 0 ≡ i = omega (arith, one) in omega (arith, end i l, subst (λ (j : ℕ). es j ≡ e) z q))
      (record { reads = r.reads; placing = r.placing })
