-- Laws of the values of formulas: each is one of the three, and follows from those of lower formulas and of the fluents at the moments up to its own.
-- Assumes nothing.
use mathlib.Core.Bool.{Bool, true, false, cond}
use mathlib.Core.List.{List}
use mathlib.Core.Path.{◌≡◌, refl, sym, ◌∙◌}
use Prim.Native.Nat.{ℕ, zero, suc, ◌≤◌, ◌<◌}
use native.Mathlib.Omega.{arith}
use borrow.Author.Tests.{eqb-true, eqb-false, eq-eqb}
use lib.Dec.{eqb}
use lib.ListN.{length, get_or, take}
use Rattle.std.proofs.lemmas.List.{get_or-take, length-take-le}
use Rattle.words.proofs.Choices.{cond-when, cond-all, cond_same}
use Rattle.words.specs.Fields.{form, formula_x, formula_y, atom_fluent}
use Rattle.job.specs.Parts.{head_word, last_moment, formula_word}
use Rattle.job.specs.Code.Parts.{formula_count}
use Rattle.job.specs.Code.WellFormed.{WellFormed, Indexed}
use Rattle.history.specs.Values.{value_at}
use Rattle.history.specs.Code.Tables.{History}
use Rattle.history.proofs.Values.{value_most}
use Rattle.formulas.specs.Values.{form_value, formula_below, formula_at, ValueUpTo}
use Rattle.formulas.specs.Code.Table.{Connectives, tabled, tabulated, Grounds, ColumnAt, FormulaTable}
use Rattle.formulas.proofs.Held.{held_most, held_same}

module _ (conj disj : List ℕ) (head w : ℕ) where
  pub form-most : Connectives conj disj → (fluent lower : ℕ → ℕ → ℕ) (t : ℕ) → (form w ≡ 1 → fluent t (atom_fluent head w) ≤ 2)
      → ((x u : ℕ) → lower x u ≤ 2) → form_value conj disj head w fluent lower t ≤ 2
  unfolding form_value
  form-most c fluent lower t h l =
      cond-all (λ v. v ≤ 2) (eqb (form w) 0) (omega arith)
      (cond-when (λ v. v ≤ 2) (eqb (form w) 1) (λ e. h (eqb-true (form w) 1 e))
      (λ e. cond-all (λ v. v ≤ 2) (eqb (form w) 2) (omega arith)
      (cond-all (λ v. v ≤ 2) (eqb (form w) 3) (c.conjunction.most _)
      (cond-all (λ v. v ≤ 2) (eqb (form w) 4) (c.disjunction.most _)
      (held_most conj (lower (formula_x w)) t c.conjunction (l (formula_x w)) (formula_y w))))))

  -- only what the form refers to matters: of X, its values up to t
  pub form-agree : (fluent fluent' lower lower' : ℕ → ℕ → ℕ) (t : ℕ) → (form w ≡ 1 → fluent t (atom_fluent head w) ≡ fluent' t (atom_fluent head w))
      → (2 ≤ form w → (u : ℕ) → u ≤ t → lower (formula_x w) u ≡ lower' (formula_x w) u)
      → (3 ≤ form w → form w ≤ 4 → lower (formula_y w) t ≡ lower' (formula_y w) t)
      → form_value conj disj head w fluent lower t ≡ form_value conj disj head w fluent' lower' t
  unfolding form_value
  form-agree fluent fluent' lower lower' t a b c =
      cond_same (eqb (form w) 0) (λ e. refl)
      (λ e₀. cond_same (eqb (form w) 1) (λ e. a (eqb-true (form w) 1 e))
      (λ e₁. cond_same (eqb (form w) 2) (λ e. rw (at-t (omega (arith, eqb-true (form w) 2 e))))
      (λ e₂. cond_same (eqb (form w) 3) (λ e. let h = eqb-true (form w) 3 e in rw (at-t (omega arith), c (omega arith) (omega arith)))
      (λ e₃. cond_same (eqb (form w) 4) (λ e. let h = eqb-true (form w) 4 e in rw (at-t (omega arith), c (omega arith) (omega arith)))
      (λ e₄. held_same conj (lower (formula_x w)) t (lower' (formula_x w)) (b (omega (arith, eqb-false (form w) 0 e₀, eqb-false (form w) 1 e₁))) (formula_y w))))))
    where
      at-t : 2 ≤ form w → lower (formula_x w) t ≡ lower' (formula_x w) t
      at-t l = b l t (omega arith)

module _ (conj disj job : List ℕ) (fluent : ℕ → ℕ → ℕ) where
  -- the rule of formula k, by the values of lower ones
  pub formula_rule : (k t : ℕ) → formula_at conj disj job fluent k t
      ≡ form_value conj disj (head_word job) (formula_word job k) fluent (formula_below conj disj job fluent k) t
  unfolding formula_at formula_below
  formula_rule k t = rw (eq-eqb k k refl)

  pub below_is : (k x t : ℕ) → x < k → formula_below conj disj job fluent k x t ≡ formula_at conj disj job fluent x t
  unfolding formula_below
  below_is zero x t l = absurd (omega arith)
  below_is (suc k) x t l = cases (eqb x k) refl (below_is k x t)
    where
      cases : (b : Bool) → eqb x k ≡ b → (x < k → formula_below conj disj job fluent k x t ≡ formula_at conj disj job fluent x t)
          → cond b (form_value conj disj (head_word job) (formula_word job k) fluent (formula_below conj disj job fluent k) t) (formula_below conj disj job fluent k x t)
          ≡ formula_at conj disj job fluent x t
      cases true e ih = let same = eqb-true x k e in rw same (sym (formula_rule k t))
      cases false e ih = ih (omega (arith, eqb-false x k e))

-- histories that agree, up to moment m, on the fluents that the formulas below n name
module _ (conj disj job : List ℕ) (fluent fluent' : ℕ → ℕ → ℕ) (m : ℕ) where
  below_same : (n : ℕ)
      → ((u k : ℕ) → u ≤ m → k < n → form (formula_word job k) ≡ 1
      → fluent u (atom_fluent (head_word job) (formula_word job k)) ≡ fluent' u (atom_fluent (head_word job) (formula_word job k)))
      → (x t : ℕ) → t ≤ m → formula_below conj disj job fluent n x t ≡ formula_below conj disj job fluent' n x t
  unfolding formula_below
  below_same zero same x t l = refl
  below_same (suc n) same x t l =
      let before = below_same n (λ u k a b. same u k a (omega arith)) in
      rw (
        before x t l,
        form-agree conj disj (head_word job) (formula_word job n) fluent fluent' (formula_below conj disj job fluent n) (formula_below conj disj job fluent' n) t
            (same t n l (omega arith)) (λ e u d. before _ u (omega arith)) (λ e d. before _ t l),
      )

pub value_up_to : ValueUpTo
unfolding formula_at
value_up_to conj disj job fluent fluent' k t same = below_same conj disj job fluent fluent' t (suc k) (λ u x l m e. same u _ l) k t (omega arith)

module _ (conj disj : List ℕ) {job : List ℕ} (p : WellFormed job) where
  -- what is found from the fluents, the columns before t and that of t so far is the value
  pub formula_found : (fluent : ℕ → ℕ → ℕ) (k t : ℕ) → k < formula_count job → (values : List ℕ)
      → ((u : ℕ) → u ≤ t → ColumnAt conj disj job fluent u k values)
      → form_value conj disj (head_word job) (formula_word job k) fluent (tabulated values) t ≡ formula_at conj disj job fluent k t
  formula_found fluent k t l values h =
      form-agree conj disj (head_word job) (formula_word job k) _ _ _ _ t (λ e. refl)
      (λ e. lower _ ((p.formula k l).lower_x e))
      (λ e m. lower _ ((p.formula k l).lower_y e m) t (omega arith))
      ∙ sym (formula_rule conj disj job fluent k t)
    where
      lower : (x : ℕ) → x < k → (u : ℕ) → u ≤ t → tabulated values x u ≡ formula_below conj disj job fluent k x u
      lower x m u b = (h u b).entry x m ∙ sym (below_is conj disj job fluent k x u m)

  -- by the history of a plan: the plan's values
  pub table_same : {starts history values : List ℕ} → History job starts history → FormulaTable conj disj job (tabled history) values
      → FormulaTable conj disj job (value_at job starts) values
  unfolding formula_at
  table_same {starts} {history} h f =
      record {
        small = f.small;
        entry =
            λ k t l m.
            f.entry k t l m
            ∙ below_same conj disj job (tabled history) (value_at job starts) (last_moment job) (suc k)
            (λ u x a b e. h.entry u _ a ((p.formula x (omega arith)).fluent e)) k t m;
      }

-- the history of a plan serves, and the first `count` places, where there are so many formulas
pub grounds : {job places starts history : List ℕ} {count : ℕ} → WellFormed job → Indexed job 5 places → count ≡ formula_count job → count ≤ length places
    → History job starts history → Grounds job (take count places) (length (take count places)) history
grounds {job} {places} {starts} {count = n} w p c fits h =
    record {
      well = w;
      indexed = record { inside = λ j l. rw (front j l) (p.inside j l); words = λ j l. rw (front j l) (p.words j l) };
      counted = length-take-le n places fits ∙ c;
      valued = record { most = λ t f l m. rw (h.entry t f l m) (value_most job starts t f) };
    }
  where
    front : (j : ℕ) → j < formula_count job → get_or (take n places) j 0 ≡ get_or places j 0
    front j l = get_or-take n places j 0 (omega arith)
