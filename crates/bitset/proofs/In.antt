-- The members of the sets that the operations make, by the relation `In`. Assumes nothing.
use Prim.Native.Nat.{ℕ, zero, ◌^◌, ◌≤◌, ◌<◌, max}
use mathlib.Core.Path.{◌≡◌, refl, sym, ap, ◌∙◌}
use mathlib.Core.Bool.{true, not, ◌&&◌, ◌||◌}
use mathlib.Core.Logic.{◌↔◌, ◌⊎◌, inl, inr, ⊎_elim}
use lib.Dec.{leb, ltb, eqb}
use lib.ListN.{get_or, replicate}
use borrow.Author.Tests.{leb-true, ltb-true, eqb-true, le-leb, lt-ltb, eq-eqb, ne_eqb}
use Rattle.bitset.specs.Code.Members.{has, IsSetOf, In, Lowest, Dropped, Max}
use Rattle.words.proofs.Choices.{both_true}
use Rattle.words.proofs.Entries.{entries_alike}
use Rattle.bitset.proofs.Bools.{not_both, either, or_cases, or_left, or_right, both}
use Rattle.bitset.proofs.Digits.{has-zero, has-below}

pub in_union : {r x y : ℕ} → IsSetOf r (λ k. has x k || has y k) → (e : ℕ) → In r e ↔ (In x e ⊎ In y e)
in_union {x = x} {y = y} h e = (
  λ t. ⊎_elim (λ u. inl (record { yes = u })) (λ u. inr (record { yes = u })) (or_cases (has x e) (has y e) (sym (h e) ∙ t.yes)),
  ⊎_elim (λ t. record { yes = h e ∙ or_left (has y e) t.yes }) (λ t. record { yes = h e ∙ or_right (has x e) t.yes }),
)

pub in_both : {r x y : ℕ} → IsSetOf r (λ k. has x k && has y k) → (e : ℕ) → In r e ↔ (In x e × In y e)
in_both {x = x} {y = y} h e = (
  λ t. let u = both_true (has x e) (has y e) (sym (h e) ∙ t.yes) in (record { yes = u.0 }, record { yes = u.1 }),
  λ t. record { yes = h e ∙ both t.0.yes t.1.yes },
)

pub in_from : {r a : ℕ} → IsSetOf r (λ k. leb a k && ltb k 64) → (e : ℕ) → In r e ↔ ((a ≤ e) × (e < 64))
in_from {a = a} h e = (
  λ t. let u = both_true (leb a e) (ltb e 64) (sym (h e) ∙ t.yes) in (leb-true a e u.0, ltb-true e 64 u.1),
  λ t. record { yes = h e ∙ both (le-leb a e t.0) (lt-ltb e 64 t.1) },
)

pub in_between : {r a b : ℕ} → IsSetOf r (λ k. leb a k && leb k b) → (e : ℕ) → In r e ↔ ((a ≤ e) × (e ≤ b))
in_between {a = a} {b = b} h e = (
  λ t. let u = both_true (leb a e) (leb e b) (sym (h e) ∙ t.yes) in (leb-true a e u.0, leb-true e b u.1),
  λ t. record { yes = h e ∙ both (le-leb a e t.0) (le-leb e b t.1) },
)

pub in_upto : {r a : ℕ} → IsSetOf r (λ k. leb k a) → (e : ℕ) → In r e ↔ (e ≤ a)
in_upto {a = a} h e = (λ t. leb-true e a (sym (h e) ∙ t.yes), λ l. record { yes = h e ∙ le-leb e a l })

pub in_minus : {r x y : ℕ} → IsSetOf r (λ k. has x k && not (has y k)) → (e : ℕ) → In r e ↔ (In x e × (In y e → ⊥))
in_minus {x = x} {y = y} h e = (
  λ t. let u = both_true (has x e) (not (has y e)) (sym (h e) ∙ t.yes) in (record { yes = u.0 }, λ v. not_both u.1 (ap not v.yes)),
  λ t. record { yes = h e ∙ both t.0.yes (⊎_elim (λ v. absurd (t.1 (record { yes = v }))) (λ v. ap not v) (either (has y e))) },
)

pub in_without : {r x a : ℕ} → IsSetOf r (λ k. has x k && not (eqb k a)) → (e : ℕ) → In r e ↔ (In x e × (e ≡ a → ⊥))
in_without {x = x} {a = a} h e = (
  λ t. let u = both_true (has x e) (not (eqb e a)) (sym (h e) ∙ t.yes) in (record { yes = u.0 }, λ q. not_both u.1 (ap not (eq-eqb e a q))),
  λ t. record { yes = h e ∙ both t.0.yes (ap not (ne_eqb e a t.1)) },
)

-- without its lowest
pub in_dropped : {x r m : ℕ} → Lowest x m → Dropped x r → (e : ℕ) → In r e ↔ (In x e × (e ≡ m → ⊥))
in_dropped l d = in_without (d.rest _ l)

pub in_single : {r a : ℕ} → IsSetOf r (λ k. eqb k a) → (e : ℕ) → In r e ↔ (e ≡ a)
in_single {a = a} h e = (λ t. eqb-true e a (sym (h e) ∙ t.yes), λ q. record { yes = h e ∙ eq-eqb e a q })

pub in_below : {x e : ℕ} → x < 2 ^ 64 → In x e → e < 64
in_below {x} {e} f t = has-below 64 x e f t.yes

pub in_zero : {A : Type 0} {x e : ℕ} → x ≡ 0 → In x e → A
in_zero {e = e} q t = not_both t.yes (ap (λ (x : ℕ). has x e) q ∙ has-zero e)

-- the empty mask is that of what nothing is
pub in_none : {P : ℕ → Type 0} → ((e : ℕ) → P e → ⊥) → (e : ℕ) → In 0 e ↔ P e
in_none f e = (λ t. not_both t.yes (has-zero e), λ p. absurd (f e p))

-- where the mask x of P gains what is Q, P' being either
pub in_more : {r x : ℕ} {P P' Q : ℕ → Type 0} → ((e : ℕ) → In r e ↔ ((In x e) ⊎ Q e)) → ((e : ℕ) → P' e ↔ (P e ⊎ Q e))
    → ((e : ℕ) → In x e ↔ P e) → (e : ℕ) → In r e ↔ P' e
in_more new turn old e = (
  λ t. (turn e).1 (⊎_elim (λ p. inl ((old e).0 p)) inr ((new e).0 t)),
  λ p. (new e).1 (⊎_elim (λ q. inl ((old e).1 q)) inr ((turn e).0 p)),
)

-- The members of a set of maxima are the numbers max i j, of a member i of one set and a member j of the other.
pub in_max : {r a b : ℕ} → ((k : ℕ) → (has r k ≡ true) ↔ Max a b k) → (k : ℕ) → In r k ↔ ((i : ℕ) × (j : ℕ) × (k ≡ max i j) × In a i × In b j)
in_max h k = (
  λ t. let m = (h k).0 t.yes in (m.i, m.j, m.is_max, record { yes = m.in_a }, record { yes = m.in_b }),
  λ m. record { yes = (h k).1 (record { i = m.0; j = m.1; in_a = m.3.yes; in_b = m.4.yes; is_max = m.2 }) },
)

-- an array of empty sets
pub empty_entry : (k i : ℕ) → get_or (replicate k zero) i 0 ≡ 0
empty_entry k i = entries_alike (λ w. w ≡ 0) k 0 refl refl i
