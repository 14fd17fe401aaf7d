-- The value of formula k at moment t, by the history of states up to t. 'And' and 'or' come in as two tables of three by three.
use Rattle.std.specs.Prelude.{cond, List, [], ◌∷◌, ◌≡◌, ℕ, zero, suc, ◌+◌, ◌-◌, ◌*◌, ◌≤◌, min, max, eqb, leb, get_or}
use Rattle.words.specs.Fields.{form, unknown, holds, formula_x, formula_y, atom_fluent}
use Rattle.job.specs.Parts.{head_word, formula_word}

-- in the order fails < open < holds: the lesser, and the greater
abbrev pub and_table : List ℕ
and_table = 0 ∷ 0 ∷ 0 ∷ 0 ∷ 1 ∷ 1 ∷ 0 ∷ 1 ∷ 2 ∷ []

abbrev pub or_table : List ℕ
or_table = 0 ∷ 1 ∷ 2 ∷ 1 ∷ 1 ∷ 2 ∷ 2 ∷ 2 ∷ 2 ∷ []

abbrev pub by_table : List ℕ → ℕ → ℕ → ℕ
by_table table a b = get_or table (a * 3 + b) 0

-- so 'and' of two values is the lesser of them, and 'or' the greater. `and_lesser`, `or_greater` (proofs/Tables.antt) show it.
abbrev pub AndLesser : Type 0
AndLesser = (a b : ℕ) → a ≤ holds → b ≤ holds → by_table and_table a b ≡ min a b

abbrev pub OrGreater : Type 0
OrGreater = (a b : ℕ) → a ≤ holds → b ≤ holds → by_table or_table a b ≡ max a b

-- the value k moments before t: open before moment 0
abbrev pub ago : (ℕ → ℕ) → ℕ → ℕ → ℕ
ago value t k = cond (leb k t) (value (t - k)) unknown

-- 'and' over the values from k + y to k moments before t, oldest first
unfoldable pub throughout : List ℕ → (ℕ → ℕ) → ℕ → ℕ → ℕ → ℕ
throughout conj value t k zero = ago value t k
throughout conj value t k (suc y) = by_table conj (throughout conj value t (suc k) y) (ago value t k)

-- a formula with these values has held for y moments at t: 'and' over its values at t - y to t. It is bounded 'historically' of metric temporal
-- logic, where moments before the first do not count; here they are open.
abbrev pub held_for : List ℕ → (ℕ → ℕ) → ℕ → ℕ → ℕ
held_for conj value y t = throughout conj value t 0 y

-- the value of a formula word at moment t, by the values of the fluents and of the lower formulas: those of X up to t for form 5, those at t for
-- all others. The forms are always, a fluent, not, and, or, has held for Y moments; a job that passes has no other.
unfoldable pub form_value : List ℕ → List ℕ → ℕ → ℕ → (ℕ → ℕ → ℕ) → (ℕ → ℕ → ℕ) → ℕ → ℕ
form_value conj disj head w fluent lower t =
    cond (eqb (form w) 0) holds
    (cond (eqb (form w) 1) (fluent t (atom_fluent head w))
    (cond (eqb (form w) 2) (holds - lower (formula_x w) t)
    (cond (eqb (form w) 3) (by_table conj (lower (formula_x w) t) (lower (formula_y w) t))
    (cond (eqb (form w) 4) (by_table disj (lower (formula_x w) t) (lower (formula_y w) t))
    (held_for conj (lower (formula_x w)) (formula_y w) t)))))

-- the values of the formulas below k, by the history of states: `fluent t f` is the value of fluent f at moment t
unfoldable pub formula_below : List ℕ → List ℕ → List ℕ → (ℕ → ℕ → ℕ) → ℕ → ℕ → ℕ → ℕ
formula_below conj disj job fluent zero x t = unknown
formula_below conj disj job fluent (suc k) x t =
    cond (eqb x k) (form_value conj disj (head_word job) (formula_word job k) fluent (formula_below conj disj job fluent k) t)
    (formula_below conj disj job fluent k x t)

unfoldable pub formula_at : List ℕ → List ℕ → List ℕ → (ℕ → ℕ → ℕ) → ℕ → ℕ → ℕ
formula_at conj disj job fluent k t = formula_below conj disj job fluent (suc k) k t

-- A value depends on the states up to its moment and on none after it: histories that agree up to t give a formula one value at t.
-- `value_up_to` (proofs/Laws.antt) shows it.
abbrev pub ValueUpTo : Type 0
ValueUpTo =
    (conj disj job : List ℕ) (fluent fluent' : ℕ → ℕ → ℕ) (k t : ℕ) → ((u f : ℕ) → u ≤ t → fluent u f ≡ fluent' u f)
    → formula_at conj disj job fluent k t ≡ formula_at conj disj job fluent' k t
