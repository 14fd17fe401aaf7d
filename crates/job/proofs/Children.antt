-- The children that a word names, by the tests of a form that the code makes. Assumes nothing.
use mathlib.Core.Bool.{Bool, true, cond, ◌&&◌, ◌||◌, and-true, and_assoc}
use mathlib.Core.List.{[], ◌∷◌}
use mathlib.Core.Path.{◌≡◌, refl, sym}
use Prim.Native.Nat.{ℕ, zero, suc}
use native.Mathlib.Omega.{arith}
use borrow.Author.Tests.{ne_eqb, le-leb, lt-leb}
use lib.Dec.{eqb, ltb}
use Rattle.words.specs.Tests.{implies, within}
use Rattle.words.specs.Fields.{form, node_x, node_y, node_m}
use Rattle.words.specs.Scan.{every}
use Rattle.model.specs.Forms.{form_number, named_by_form}
use Rattle.job.specs.Children.{node_children}

-- the forms that name X, Y, M
abbrev names_x : ℕ → Bool
names_x f = within 2 3 f || within 6 7 f

abbrev names_y : ℕ → Bool
names_y f = within 2 7 f

abbrev names_m : ℕ → Bool
names_m f = eqb f 4

-- a form's children are below n
below : (w n f : ℕ) → every (λ q. ltb q n) (named_by_form (form_number f) w)
    ≡ (implies (names_x f) (ltb (node_x w) n) && implies (names_y f) (ltb (node_y w) n) && implies (names_m f) (ltb (node_m w) n))
below w n zero = refl
below w n (suc zero) = refl
below w n (suc (suc zero)) = sym (and_assoc (ltb (node_x w) n) (ltb (node_y w) n) true)
below w n (suc (suc (suc zero))) = sym (and_assoc (ltb (node_x w) n) (ltb (node_y w) n) true)
below w n (suc (suc (suc (suc zero)))) = rw (and-true (ltb (node_m w) n))
below w n (suc (suc (suc (suc (suc zero))))) = refl
below w n (suc (suc (suc (suc (suc (suc zero)))))) = sym (and_assoc (ltb (node_x w) n) (ltb (node_y w) n) true)
below w n (suc (suc (suc (suc (suc (suc (suc zero))))))) = sym (and_assoc (ltb (node_x w) n) (ltb (node_y w) n) true)
below w n (suc (suc (suc (suc (suc (suc (suc (suc zero)))))))) = refl
below w n (suc (suc (suc (suc (suc (suc (suc (suc (suc k))))))))) = rw (le-leb 2 (suc (suc (suc (suc (suc (suc (suc (suc (suc k))))))))) (omega arith), le-leb 6 (suc (suc (suc (suc (suc (suc (suc (suc (suc k))))))))) (omega arith), lt-leb (suc (suc (suc (suc (suc (suc (suc (suc (suc k))))))))) 3 (omega arith), lt-leb (suc (suc (suc (suc (suc (suc (suc (suc (suc k))))))))) 7 (omega arith), ne_eqb (suc (suc (suc (suc (suc (suc (suc (suc (suc k))))))))) 4 (λ z. omega arith))

-- a form but 4 and 5 names X and Y, or nothing
pub other_children : (w f : ℕ) → (f ≡ 4 → ⊥) → (f ≡ 5 → ⊥) → named_by_form (form_number f) w ≡ cond (within 2 7 f) (node_x w ∷ node_y w ∷ []) []
other_children w zero a b = refl
other_children w (suc zero) a b = refl
other_children w (suc (suc zero)) a b = refl
other_children w (suc (suc (suc zero))) a b = refl
other_children w (suc (suc (suc (suc zero)))) a b = absurd (a refl)
other_children w (suc (suc (suc (suc (suc zero))))) a b = absurd (b refl)
other_children w (suc (suc (suc (suc (suc (suc zero)))))) a b = refl
other_children w (suc (suc (suc (suc (suc (suc (suc zero))))))) a b = refl
other_children w (suc (suc (suc (suc (suc (suc (suc (suc zero)))))))) a b = refl
other_children w (suc (suc (suc (suc (suc (suc (suc (suc (suc k))))))))) a b = rw (le-leb 2 (suc (suc (suc (suc (suc (suc (suc (suc (suc k))))))))) (omega arith), lt-leb (suc (suc (suc (suc (suc (suc (suc (suc (suc k))))))))) 7 (omega arith))

module _ (w : ℕ) where
  pub children-below : (n : ℕ) → every (λ q. ltb q n) (node_children w)
      ≡ (implies (names_x (form w)) (ltb (node_x w) n) && implies (names_y (form w)) (ltb (node_y w) n) && implies (names_m (form w)) (ltb (node_m w) n))
  children-below n = below w n (form w)
