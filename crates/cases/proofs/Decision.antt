-- A test that computes whether node p reads from b to e: the rule of each form over tests. `decides` (Decides.antt) is its law: it tells what
-- has a reading. Assumes nothing.
use Prim.Native.Nat.{ℕ, zero, suc, ◌+◌, max}
use mathlib.Core.Bool.{Bool, false, not, ◌&&◌, ◌||◌}
use mathlib.Core.List.{List, [], ◌∷◌}
use lib.Dec.{eqb, leb}
use lib.ListN.{length, get_or}
use Rattle.sets.specs.Code.Rows.{entry_at}
use Rattle.words.specs.Scan.{any_below}
use Rattle.words.specs.Tests.{implies}
use Rattle.words.proofs.AllBelow.{all_below}
use Rattle.words.specs.Fields.{fails, holds, condition_formula, condition_i, condition_j, condition_m, condition_n}
use Rattle.model.specs.Trajectory.{Trajectory}
use Rattle.model.specs.Procedure.{Procedure}
use Rattle.sets.specs.Set.{TaskSet, member_count}
use Rattle.model.specs.Forms.{Form, Act, Test, Sequence, Choice, If, While, StartWindow, EndWindow, Set, Reserved, form_at, field_x, field_y, field_m, field_n, ConditionForm, BeginAfterBegin, BeginAfterEnd, HoldsBefore, HoldsAfter, HoldsBetween, ReservedCondition, condition_form}
use Rattle.reading.specs.Forms.{set_at}

-- the formula's value is `holds` at each moment up to n that passes both tests
abbrev pub through : (ℕ → ℕ) → ℕ → (ℕ → Bool) → (ℕ → Bool) → Bool
through value n f g = all_below (λ t. implies (f t && g t) (eqb (value t) holds)) (suc n)

-- a condition of each form
abbrev pub metb : ConditionForm → (ℕ → ℕ → ℕ) → ℕ → ℕ → ℕ → ℕ → ℕ → ℕ → ℕ → Bool
metb BeginAfterBegin value n k M N bi ei bj = leb (bi + M) bj && leb bj (bi + N)
metb BeginAfterEnd value n k M N bi ei bj = leb (ei + M) bj && leb bj (ei + N)
metb HoldsBefore value n k M N bi ei bj = leb N bi && through (value k) n (λ t. leb bi (t + N)) (λ t. leb (t + M) bi)
metb HoldsAfter value n k M N bi ei bj = leb (ei + N) n && through (value k) n (λ t. leb (ei + M) t) (λ t. leb t (ei + N))
metb HoldsBetween value n k M N bi ei bj = through (value k) n (λ t. leb (ei + M) t) (λ t. leb (t + N) bj)
metb ReservedCondition value n k M N bi ei bj = false

-- begins and ends are lawful from b to e
abbrev pub insideb : ℕ → ℕ → (ℕ → ℕ) → (ℕ → ℕ) → ℕ → Bool
insideb b e bs es i = leb b (bs i) && (leb (bs i) (es i) && leb (es i) e)

abbrev pub coveredb : ℕ → ℕ → (ℕ → ℕ) → (ℕ → ℕ) → ℕ → Bool
coveredb count b bs es t = implies (leb b t) (any_below (λ i. leb (bs i) t && leb t (es i)) count)

abbrev pub conditionb : TaskSet → (ℕ → ℕ) → (ℕ → ℕ) → ℕ → Bool
conditionb s bs es c =
    let w = get_or s.conditions c 0 in
    metb (condition_form w) s.value s.last (condition_formula w) (condition_m w) (condition_n w) (bs (condition_i w)) (es (condition_i w)) (bs (condition_j w))

unfoldable pub placingb : TaskSet → ℕ → ℕ → (ℕ → ℕ) → (ℕ → ℕ) → Bool
placingb s b e bs es =
    (leb b e && leb e s.last)
    && (all_below (insideb b e bs es) (member_count s) && (all_below (coveredb (member_count s) b bs es) (suc e) && all_below (conditionb s bs es) (length s.conditions)))

-- some choice of begins and ends below n, with which each member reads, passes
unfoldable pub tried : (ℕ → ℕ → ℕ → Bool) → ℕ → List ℕ → (List ℕ → List ℕ → Bool) → Bool
tried R n [] f = f [] []
tried R n (m ∷ ms) f = any_below (λ x. any_below (λ y. R m x y && tried R n ms (λ xs ys. f (x ∷ xs) (y ∷ ys))) n) n

unfoldable pub setb : TaskSet → (ℕ → ℕ → ℕ → Bool) → ℕ → ℕ → Bool
setb s R b e = tried R (suc s.last) s.members (λ bs es. placingb s b e (entry_at bs) (entry_at es))

-- no action below 64 starts at k ≤ t < m
abbrev pub quietb : Trajectory → ℕ → ℕ → Bool
quietb T k m = all_below (λ t. implies (leb k t) (all_below (λ a. not (T.starts a t)) 64)) m

-- the rule of each form
unfoldable pub ruleb : Procedure → Trajectory → (ℕ → ℕ → ℕ → Bool) → Form → ℕ → ℕ → ℕ → Bool
ruleb P T R Act p b e = T.starts (field_x P p) b && (eqb e (b + T.duration (field_x P p)) && leb e T.last)
ruleb P T R Test p b e = eqb (T.value (field_x P p) b) holds && eqb e b
ruleb P T R Sequence p b e = any_below (λ m. leb b m && (R (field_x P p) b m && R (field_y P p) m e)) (suc T.last)
ruleb P T R Choice p b e = R (field_x P p) b e || R (field_y P p) b e
ruleb P T R If p b e =
    (eqb (T.value (field_x P p) b) holds && R (field_y P p) b e) || (eqb (T.value (field_x P p) b) fails && R (field_m P p) b e)
ruleb P T R While p b e =
    (eqb (T.value (field_x P p) b) fails && eqb e b)
    || (eqb (T.value (field_x P p) b) holds && any_below (λ m. leb (b + 1) m && (R (field_y P p) b m && R p m e)) (suc T.last))
ruleb P T R StartWindow p b e =
    any_below (λ m. (leb (b + field_m P p) m && leb m (b + field_n P p))
    && any_below (λ k. R (field_x P p) b k && any_below (λ l. eqb e (max k l) && R (field_y P p) m l) (suc e)) (suc e)) (suc T.last)
ruleb P T R EndWindow p b e =
    any_below (λ k. (leb b k && R (field_x P p) b k)
    && any_below (λ m. (leb (k + field_m P p) m && leb m (k + field_n P p)) && (R (field_y P p) m e && quietb T k m)) (suc T.last)) (suc T.last)
ruleb P T R Set p b e = setb (set_at P T p) R b e
ruleb P T R Reserved p b e = false

-- the rule, k steps deep
unfoldable pub reads : ℕ → Procedure → Trajectory → ℕ → ℕ → ℕ → Bool
reads zero P T p b e = false
reads (suc k) P T p b e = ruleb P T (reads k P T) (form_at P p) p b e
