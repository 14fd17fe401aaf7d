-- A list without repeats is no longer than one that has all its elements: so two counts of the same triples agree. Assumes nothing.
use Prim.Native.Nat.{suc, ◌≤◌, zero-le}
use mathlib.Core.Path.{◌≡◌, refl, sym, ap, ◌∙◌, subst}
use mathlib.Core.Logic.{◌⊎◌, inl, inr, ⊎_elim}
use mathlib.Core.List.Memᴰ
use mathlib.Core.List.{List, ◌∷◌, Memᴰ}
use native.Mathlib.Omega.{arith}
use lib.ListN.{length}
use Rattle.reading.specs.Count.{Distinct, none, more, CountedOnce}

module _ {A : Type 0} where
  -- a list without one of its elements: one shorter, and it keeps all others
  without : {x : A} {ys : List A} → Memᴰ x ys
      → (zs : List A) × (length ys ≡ suc (length zs)) × ((z : A) → Memᴰ z ys → (z ≡ x) ⊎ Memᴰ z zs)
  without (Memᴰ.head {x = y} {xs = ys} e) = (ys, refl, λ z m. ⊎_elim (λ q. inl (q ∙ sym e)) inr (Memᴰ.cases_cons m))
  without (Memᴰ.tail {x = y} {xs = ys} m) =
      let r = without m in
      (y ∷ r.0, ap suc r.1, λ z k. ⊎_elim (λ q. inr (Memᴰ.head q)) (λ t. ⊎_elim inl (λ u. inr (Memᴰ.tail u)) (r.2 z t)) (Memᴰ.cases_cons k))

  no_longer : {xs ys : List A} → Distinct xs → ((z : A) → Memᴰ z xs → Memᴰ z ys) → length xs ≤ length ys
  no_longer none f = zero-le
  no_longer (more {x = x} {xs = xs} h d) f =
      let r = without (f x (Memᴰ.head refl)) in
      let l = no_longer d (λ z m. ⊎_elim (λ q. absurd (h (subst (λ (v : A). Memᴰ v xs) q m))) (λ t. t) (r.2 z (f z (Memᴰ.tail m)))) in
      omega (arith, r.1)

pub counted_once : CountedOnce
counted_once P T a b x y =
    let l = no_longer x.distinct (λ s m. (y.exact s).1 ((x.exact s).0 m)) in
    let g = no_longer y.distinct (λ s m. (x.exact s).1 ((y.exact s).0 m)) in
    omega (arith, x.many, y.many)
