-- The moments at which a formula fails, the masks that the conditions allow, and the masks of the members' ends as the conditions narrow them. Assumes nothing.
use Prim.Native.Nat.{ℕ, ◌+◌, ◌*◌, ◌^◌, ◌≤◌, ◌<◌}
use mathlib.Core.Path.{◌≡◌, refl, sym, subst}
use mathlib.Core.Bool.{Bool, true, false, ◌||◌}
use mathlib.Core.Logic.{◌↔◌, inl, inr, ⊎_elim, by_cases}
use mathlib.Core.List.{List}
use native.Mathlib.Decide.{dec_lt, ℕ_discrete}
use native.Mathlib.Omega.{arith}
use lib.Dec.{eqb}
use lib.ListN.{get_or}
use lib.Count.{count_trailing_zeros}
use borrow.Author.Tests.{eqb-true, eq-eqb}
use Rattle.bitset.specs.Code.Members.{has, IsSetOf, In, Highest}
use Rattle.bitset.proofs.Bools.{not_both}
use Rattle.bitset.proofs.Ends.{lowest}
use Rattle.bitset.proofs.In.{in_zero, in_single, in_union}
use Rattle.words.specs.Fields.{form, holds, condition_formula, condition_m, condition_n}
use Rattle.model.specs.Forms.{condition_number}
use Rattle.sets.specs.Set.{MetAt}
use Rattle.sets.specs.Code.Masks.{Picked, Allowed, MaskOf}

-- a word without members is 0
empty_zero : {r : ℕ} → r < 2 ^ 64 → ((t : ℕ) → In r t → ⊥) → r ≡ 0
empty_zero {r} f n = by_cases (ℕ_discrete r 0) (λ q. q) (λ q. absurd (n (count_trailing_zeros 64 r) (record { yes = (lowest r (omega arith) f).member })))

-- ---- one moment more

-- of the moments from a to before y, the mask has those at which the test says yes
pub record PickedTo (a : ℕ) (says : ℕ → Bool → Type 0) (mask y : ℕ) : Type 0 where
  pub inside : (v : ℕ) → In mask v → (a ≤ v) × (v < y)
  pub told : (v : ℕ) → a ≤ v → v < y → (r : Bool) × says v r × ((r ≡ true) ↔ In mask v)

pub picked_none : {a : ℕ} {says : ℕ → Bool → Type 0} → PickedTo a says 0 a
picked_none = record { inside = λ v t. absurd (in_zero refl t); told = λ v l g. absurd (omega arith) }

module _ {a y mask : ℕ} {says : ℕ → Bool → Type 0} {r : Bool} (l : a ≤ y) (old : PickedTo a says mask y) (met : says y r) where
  pub picked_yes : {m new : ℕ} (one : ℕ) → r ≡ true → IsSetOf one (λ k. eqb k y) → IsSetOf new (λ k. has mask k || has one k) → m ≡ new → PickedTo a says m (y + 1)
  picked_yes {m} {new} one h s u e = subst (λ (m : ℕ). PickedTo a says m (y + 1)) (sym e) (record {
    inside = λ v t. ⊎_elim (λ o. let k = old.inside v o in (k.0, omega arith)) (λ o. let q = (in_single s v).0 o in (omega arith, omega arith)) ((in_union u v).0 t);
    told = λ v g b. by_cases (dec_lt v y)
        (λ k. let o = old.told v g k in (
          o.0,
          o.1,
          (λ q. (in_union u v).1 (inl (o.2.0 q)), λ t. ⊎_elim (λ i. o.2.1 i) (λ i. let q = (in_single s v).0 i in absurd (omega arith)) ((in_union u v).0 t)),
        ))
        (λ k. let q : v ≡ y = omega arith in (
          r,
          subst (λ (v : ℕ). says v r) (sym q) met,
          (λ _. (in_union u v).1 (inr ((in_single s v).1 q)), λ _. h),
        ));
  })

  pub picked_no : {m : ℕ} → r ≡ false → m ≡ mask → PickedTo a says m (y + 1)
  picked_no {m} n e = subst (λ (m : ℕ). PickedTo a says m (y + 1)) (sym e) (record {
    inside = λ v t. let h = old.inside v t in (h.0, omega arith);
    told = λ v g b. by_cases (dec_lt v y)
        (λ k. old.told v g k)
        (λ k. let q : v ≡ y = omega arith in (
          r,
          subst (λ (v : ℕ). says v r) (sym q) met,
          (λ t. absurd (not_both t n), λ t. let h = old.inside v t in absurd (omega arith)),
        ));
  })

pub picked_all : {a z y mask : ℕ} {says : ℕ → Bool → Type 0} → z ≡ y → PickedTo a says mask (y + 1) → Picked a z says mask
picked_all q h = record { inside = λ v t. let k = h.inside v t in (k.0, omega arith); told = λ v g b. h.told v g (omega arith) }

-- in words of what the test tells
pub picked_is : {a z mask : ℕ} {says : ℕ → Bool → Type 0} (M : ℕ → Type 0) → ((t : ℕ) (r : Bool) → a ≤ t → t ≤ z → says t r → (r ≡ true) ↔ M t)
    → Picked a z says mask → (t : ℕ) → In mask t ↔ ((a ≤ t) × (t ≤ z) × M t)
picked_is M is h t = (
  λ u. let o = h.inside t u in let k = h.told t o.0 o.1 in (o.0, o.1, (is t k.0 o.0 o.1 k.1).0 (k.2.1 u)),
  λ o. let k = h.told t o.0 o.1 in k.2.0 ((is t k.0 o.0 o.1 k.1).1 o.2),
)

-- ---- where a formula fails

-- fails has, of the moments that are P, those at which formula k does not hold
module _ (value : ℕ → ℕ → ℕ) (k : ℕ) {fails : ℕ} (P : ℕ → Type 0) (f : (t : ℕ) → P t → In fails t ↔ (value k t ≡ holds → ⊥)) where
  pub held : (t : ℕ) → P t → (In fails t → ⊥) → value k t ≡ holds
  held t p g = by_cases (ℕ_discrete (value k t) holds) (λ q. q) (λ q. absurd (g ((f t p).1 q)))

  -- it holds through lo..hi where the mask has no moment of these
  pub through : {r : ℕ} (lo hi : ℕ) → r < 2 ^ 64 → ((t : ℕ) → lo ≤ t → t ≤ hi → P t) → ((t : ℕ) → In r t ↔ (In fails t × ((lo ≤ t) × (t ≤ hi))))
      → (eqb r 0 ≡ true) ↔ ((t : ℕ) → lo ≤ t → t ≤ hi → value k t ≡ holds)
  through {r} lo hi b seen is = (
    λ z t g h. held t (seen t g h) (λ u. in_zero (eqb-true r 0 z) ((is t).1 (u, (g, h)))),
    λ h. eq-eqb r 0 (empty_zero b (λ t u. let o = (is t).0 u in (f t (seen t o.1.0 o.1.1)).0 o.0 (h t o.1.0 o.1.1))),
  )

  -- The formula holds at each moment from lo up to hi just where the highest moment up to hi at which it fails is before lo.
  pub until : {g hi : ℕ} → Highest fails hi g → (lo : ℕ) → ((t : ℕ) → lo ≤ t → t ≤ hi → P t)
      → (g < lo) ↔ ((t : ℕ) → lo ≤ t → t ≤ hi → value k t ≡ holds)
  until {g} {hi} h lo seen = (
    λ b t m u. held t (seen t m u) (λ i. not_both i.yes (h.last t (omega arith) u)),
    λ m. by_cases (dec_lt g lo) (λ b. b) (λ b.
        let l : lo ≤ g = omega arith in
        absurd ((f g (seen g l h.upto)).0 (record { yes = h.member }) (m g l h.upto))),
  )

-- ---- the mask of a condition word

-- in the words of the condition word w
pub mask_met : (value : ℕ → ℕ → ℕ) (n w a z x : ℕ) {f k M N r : ℕ} → f ≡ form w → k ≡ condition_formula w → M ≡ condition_m w → N ≡ condition_n w
    → MaskOf (condition_number f) value n k M N a z x r → (y : ℕ) → In r y ↔ ((a ≤ y) × (y ≤ z) × MetAt value n w y y x)
mask_met value n w a z x qf qk qm qn h y = rw (qf, qk, qm, qn) at (h y)

-- the masks of one condition more
pub allowed_more : {value : ℕ → ℕ → ℕ} {cs old new : List ℕ} {n lo hi : ℕ} (c : ℕ) → hi < 64 → Allowed value cs n lo hi c old
    → ((x y : ℕ) → lo ≤ x → x ≤ hi → In (get_or new (c * 64 + x) 0) y ↔ ((lo ≤ y) × (y ≤ hi) × MetAt value n (get_or cs c 0) y y x))
    → ((p : ℕ) → p < c * 64 → get_or new p 0 ≡ get_or old p 0) → Allowed value cs n lo hi (c + 1) new
allowed_more c l old masks same = record {
  mask = λ d x y g a z. by_cases (dec_lt d c)
      (λ b. rw (same (d * 64 + x) (omega arith)) (old.mask d x y b a z))
      (λ b. let q : d ≡ c = omega arith in rw q (masks x y a z));
}
