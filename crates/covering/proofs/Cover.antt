-- The law of a task set's ends. The begins are fixed, and member i may end at the members of the mask es i, none before its begin. Some choice
-- of ends covers b..e, with none after e, iff
--     some mask has e, each mask has a member that is at most e, some member begins at b, and
--     where a member begins after b, one that begins before it can end, at most at e, one moment before that begin or later.
-- The greatest end that is at most e will do for each member. Assumes nothing.
use Prim.Native.Nat.{ℕ, zero, suc, ◌+◌, ◌-◌, ◌≤◌, ◌<◌}
use mathlib.Core.Path.{◌≡◌, subst}
use mathlib.Core.Logic.{by_cases}
use native.Mathlib.Decide.{dec_le}
use native.Mathlib.Omega.{arith}
use Rattle.bitset.specs.Code.Members.{Highest, In}
use Rattle.bitset.proofs.Bools.{not_both}
use Rattle.covering.specs.Code.Cover.{SomeBelow, Reaches, Needed, Coverable, Covering}

module _ {count : ℕ} {bs Es : ℕ → ℕ} {b e : ℕ} (some : 0 < count)
    (after : (i : ℕ) → i < count → b ≤ bs i) (onward : (i x : ℕ) → i < count → In (Es i) x → bs i ≤ x) where
  pub coverable : {es : ℕ → ℕ} → Covering count bs Es b e es → Coverable count bs Es b e
  coverable {es} h = record { last = last; first = first; needs = needs }
    where
      order : (i : ℕ) → i < count → (b ≤ bs i) × (bs i ≤ es i) × (es i ≤ e)
      order i l = (after i l, onward i (es i) l (h.chosen i l).0, (h.chosen i l).1)

      last : SomeBelow count (λ i. In (Es i) e)
      last =
          let o = order 0 some in
          let k = h.covers e (omega arith) (omega arith) in
          let m = h.chosen k.0 k.1 in
          let u = k.3 in
          let v = m.1 in
          let q : es k.0 ≡ e = omega arith in
          record { at = k.0; below = k.1; is = subst (λ (x : ℕ). In (Es k.0) x) q m.0 }

      first : SomeBelow count (λ i. bs i ≡ b)
      first =
          let o = order 0 some in
          let k = h.covers b (omega arith) (omega arith) in
          let u = k.2 in
          let v = after k.0 k.1 in
          record { at = k.0; below = k.1; is = omega arith }

      needs : (i : ℕ) → i < count → Needed count bs Es b i e
      needs i l = record {
        each = record { end = es i; member = (h.chosen i l).0; late = omega arith; upto = (h.chosen i l).1 };
        bridged = λ g.
            let o = order i l in
            let k = h.covers (bs i - 1) (omega arith) (omega arith) in
            let u = k.2 in
            let m = h.chosen k.0 k.1 in
            record { at = k.0; below = k.1; is = (omega arith, record { end = es k.0; member = m.0; late = k.3; upto = m.1 }) };
      }

  -- the greatest ends cover
  pub covering : {es : ℕ → ℕ} → Coverable count bs Es b e → ((i : ℕ) → i < count → Highest (Es i) e (es i)) → Covering count bs Es b e es
  covering {es} h top = record { chosen = λ i l. (record { yes = (top i l).member }, (top i l).upto); covers = λ t g l. down (e - t) t g (omega arith) }
    where
      -- what a member reaches, its greatest end reaches
      reached : (i x : ℕ) → i < count → Reaches Es i x e → x ≤ es i
      reached i x l r = by_cases (dec_le x (es i)) (λ g. g) (λ g. let a = r.late in not_both r.member.yes ((top i l).last r.end (omega arith) r.upto))

      -- a moment that is d before e
      down : (d t : ℕ) → b ≤ t → t + d ≡ e → (i : ℕ) × (i < count) × (bs i ≤ t) × (t ≤ es i)
      down zero t g q =
          let k = h.last in
          let m = onward k.at e k.below k.is in
          (k.at, k.below, omega arith, reached k.at t k.below (record { end = e; member = k.is; late = omega arith; upto = omega arith }))
      down (suc d) t g q =
          let k = down d (suc t) (omega arith) (omega arith) in
          by_cases (dec_le (bs k.0) t)
          (λ u. let v = k.3 in (k.0, k.1, u, omega arith))
          (λ u.
          let v = k.2 in
          let j = (h.needs k.0 k.1).bridged (omega arith) in
          let m = j.is.0 in
          let z = reached j.at (bs k.0 - 1) j.below j.is.1 in
          (j.at, j.below, omega arith, omega arith))

-- what covers rests on the begins and masks of the members alone
module _ {count e : ℕ} {bs bs' Es Es' : ℕ → ℕ} (same : (i : ℕ) → i < count → bs i ≡ bs' i) (alike : (i : ℕ) → i < count → Es i ≡ Es' i) where
  reaches_as : {i x : ℕ} → i < count → Reaches Es i x e → Reaches Es' i x e
  reaches_as {i} l r = record { end = r.end; member = subst (λ (m : ℕ). In m r.end) (alike i l) r.member; late = r.late; upto = r.upto }

  needed_as : {b i : ℕ} → i < count → Needed count bs Es b i e → Needed count bs' Es' b i e
  needed_as {i = i} l h = record {
    each = reaches_as l h.each;
    bridged = λ g. let q = same i l in let k = h.bridged (omega arith) in let p = same k.at k.below in let u = k.is.0 in record {
      at = k.at;
      below = k.below;
      is = (omega arith, reaches_as k.below (subst (λ (x : ℕ). Reaches Es k.at (x - 1) e) q k.is.1));
    };
  }

  pub coverable_as : {b : ℕ} → Coverable count bs Es b e → Coverable count bs' Es' b e
  coverable_as h = record {
    last = let k = h.last in record { at = k.at; below = k.below; is = subst (λ (m : ℕ). In m e) (alike k.at k.below) k.is };
    first = let k = h.first in let q = same k.at k.below in let u = k.is in record { at = k.at; below = k.below; is = omega arith };
    needs = λ i l. needed_as l (h.needs i l);
  }
