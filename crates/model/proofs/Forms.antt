-- The forms and their numbers, and children that are the same, or lower. Assumes nothing.
use Prim.Native.Nat.{ℕ, zero, suc, ◌-◌, ◌≤◌, ◌<◌}
use mathlib.Core.Bool.{true, false≢true}
use mathlib.Core.Path.{◌≡◌, refl, sym, ap, ◌∙◌}
use mathlib.Core.List.{List, [], ◌∷◌}
use native.Mathlib.Omega.{arith}
use lib.ListN.{length, get_or}
use Rattle.words.specs.Fields.{form}
use Rattle.model.specs.Procedure.{Procedure}
use Rattle.model.specs.Forms.{Form, Act, Test, Sequence, Choice, If, While, StartWindow, EndWindow, Set, Reserved, form_number, form_at, ReservedCondition, condition_number}
use Rattle.model.specs.Code.Forms.{children_as, children, Below, asks_formula}

-- the number of a form; the reserved ones have the first of theirs
abbrev pub number_of : Form → ℕ
number_of Act = 0
number_of Test = 1
number_of Sequence = 2
number_of Choice = 3
number_of If = 4
number_of While = 5
number_of StartWindow = 6
number_of EndWindow = 7
number_of Set = 8
number_of Reserved = 9

number_back : (k : ℕ) → number_of (form_number k) < 9 → number_of (form_number k) ≡ k
number_back zero h = refl
number_back (suc zero) h = refl
number_back (suc (suc zero)) h = refl
number_back (suc (suc (suc zero))) h = refl
number_back (suc (suc (suc (suc zero)))) h = refl
number_back (suc (suc (suc (suc (suc zero))))) h = refl
number_back (suc (suc (suc (suc (suc (suc zero)))))) h = refl
number_back (suc (suc (suc (suc (suc (suc (suc zero))))))) h = refl
number_back (suc (suc (suc (suc (suc (suc (suc (suc zero)))))))) h = refl
number_back (suc (suc (suc (suc (suc (suc (suc (suc (suc k))))))))) h = absurd (omega arith)

-- a form that is not reserved has one number
pub form-number : (k : ℕ) {f : Form} → form_number k ≡ f → number_of f < 9 → k ≡ number_of f
form-number k h l = sym (number_back k (rw h l)) ∙ ap number_of h

-- a number from 9 on is reserved
pub reserved : (k : ℕ) → 9 ≤ k → form_number k ≡ Reserved
reserved k h = let e : k ≡ suc (suc (suc (suc (suc (suc (suc (suc (suc (k - 9))))))))) = omega arith in ap form_number e

-- a condition of a number that no form has is reserved
pub no_condition : (k : ℕ) → (k ≡ 0 → ⊥) → (k ≡ 1 → ⊥) → (k ≡ 2 → ⊥) → (k ≡ 3 → ⊥) → (k ≡ 4 → ⊥) → condition_number k ≡ ReservedCondition
no_condition zero a b c d e = absurd (a refl)
no_condition (suc zero) a b c d e = absurd (b refl)
no_condition (suc (suc zero)) a b c d e = absurd (c refl)
no_condition (suc (suc (suc zero))) a b c d e = absurd (d refl)
no_condition (suc (suc (suc (suc zero)))) a b c d e = absurd (e refl)
no_condition (suc (suc (suc (suc (suc k))))) a b c d e = refl

-- one that asks for a formula has a number from 2 on
pub asks_number : (k : ℕ) → asks_formula (condition_number k) ≡ true → 2 ≤ k
asks_number zero h = absurd (false≢true h)
asks_number (suc zero) h = absurd (false≢true h)
asks_number (suc (suc k)) h = omega arith

-- ---- children

pub below_at : {n : ℕ} (xs : List ℕ) → ((i : ℕ) → i < length xs → get_or xs i 0 < n) → Below n xs
below_at [] h = tt
below_at (x ∷ xs) h = (h 0 (omega arith), below_at xs (λ i l. h (suc i) (omega arith)))

pub at-below : {n : ℕ} (xs : List ℕ) → Below n xs → (i : ℕ) → i < length xs → get_or xs i 0 < n
at-below [] h i l = absurd (omega arith)
at-below (x ∷ xs) h zero l = h.0
at-below (x ∷ xs) h (suc i) l = at-below xs h.1 i (omega arith)

pub below_le : {n m : ℕ} (xs : List ℕ) → n ≤ m → Below n xs → Below m xs
below_le [] l h = tt
below_le (x ∷ xs) l h = let g = h.0 in (omega arith, below_le xs l h.1)

-- nodes have the same children where their words are the same, and their members where they are task sets
module _ (P P' : Procedure) (p p' : ℕ) (n : P'.node p' ≡ P.node p) where
  pub same_form : form_at P' p' ≡ form_at P p
  same_form = ap (λ (w : ℕ). form_number (form w)) n

  children-as : (f : Form) → (f ≡ Set → P'.members p' ≡ P.members p) → children_as P' f p' ≡ children_as P f p
  children-as Act m = refl
  children-as Test m = refl
  children-as Sequence m = rw n
  children-as Choice m = rw n
  children-as If m = rw n
  children-as While m = rw n
  children-as StartWindow m = rw n
  children-as EndWindow m = rw n
  children-as Set m = m refl
  children-as Reserved m = refl

  pub same_children : (form_at P p ≡ Set → P'.members p' ≡ P.members p) → children P' p' ≡ children P p
  same_children m = ap (λ (f : Form). children_as P' f p') same_form ∙ children-as (form_at P p) m
