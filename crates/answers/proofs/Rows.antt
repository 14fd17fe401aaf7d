-- Laws of rows: which of several fits first. Assumes nothing.
use mathlib.Core.Bool.{Bool, true, false, cond, true≢false}
use mathlib.Core.List.{List}
use mathlib.Core.Path.{◌≡◌, refl, ap, sym, ◌∙◌}
use Prim.Native.Nat.{ℕ, zero, suc, ◌+◌, ◌<◌, ◌≤◌}
use native.Mathlib.Decide.{le_ind, dec_lt}
use native.Mathlib.Numerals.{add-one}
use native.Mathlib.Omega.{arith}
use lib.Dec.{eqb}
use lib.ListN.{length, get_or}
use Rattle.std.specs.Prelude.{Option, None, Some, Result, Ok, Err, position}
use Rattle.std.specs.Option.{is_some}
use Rattle.std.specs.Result.{is_ok, IsErrAnd}
use Rattle.std.specs.List.{position_or_len}
use Rattle.std.proofs.lemmas.List.Sums.{fails_before_first, passes_at_first}
use borrow.Author.Tests.{lt-ltb, le-ltb, eq-eqb, ne_eqb, eqb-true, eqb-false}
use Rattle.answers.specs.Packed.{answer_of}
use Rattle.answers.specs.Rows.{refusal, passed, row, first_refusal, refusal_at, first_of}
use Rattle.answers.specs.declared.Refusal.{Refusal}
use Rattle.answers.specs.Code.Ruled.{if_any, refused_at, ruled}

-- a number at a position
pub at-number : (i n : ℕ) → (refusal_at i n).number ≡ n
at-number i n = go (eqb n 0) refl
  where
    go : (t : Bool) → eqb n 0 ≡ t → (cond t passed (refusal n i)).number ≡ n
    go true e = sym (eqb-true n 0 e)
    go false e = refl

-- where neither of two rows fits, neither has a number
pub or_none : (a b : Refusal) → (first_refusal a b).number ≡ 0 → (a.number ≡ 0) × (b.number ≡ 0)
or_none a b = go (eqb a.number 0) refl
  where
    go : (t : Bool) → eqb a.number 0 ≡ t → (cond t b a).number ≡ 0 → (a.number ≡ 0) × (b.number ≡ 0)
    go true e h = (eqb-true a.number 0 e, h)
    go false e h = absurd (eqb-false a.number 0 e h)

-- a row that gives a number is the answer, and one that gives none leaves it to the next
pub or_refused : (a b : Refusal) → (a.number ≡ 0 → ⊥) → a ≡ first_refusal a b
or_refused a b h = rw (ne_eqb a.number 0 h)

pub or_passed : (a b : Refusal) → a.number ≡ 0 → b ≡ first_refusal a b
or_passed a b h = rw (eq-eqb a.number 0 h)

-- rows put together in either way
pub or_assoc : (a b c : Refusal) → first_refusal a (first_refusal b c) ≡ first_refusal (first_refusal a b) c
or_assoc a b c = cases (eqb a.number 0) refl
  where
    cases : (t : Bool) → eqb a.number 0 ≡ t → cond t (first_refusal b c) a ≡ first_refusal (cond t b a) c
    cases true e = refl
    cases false e = rw e

-- a refusal has no length and no count
pub answer_refused : (r : Refusal) (l c l' c' : ℕ) → (r.number ≡ 0 → ⊥) → answer_of r l c ≡ answer_of r l' c'
answer_refused r l c l' c' h = rw (ne_eqb r.number 0 h)

-- a row that gives no number does not fit
pub row-none : (fits : Bool) (n position : ℕ) → 0 < n → (row fits n position).number ≡ 0 → fits ≡ false
row-none true n position l e = absurd (omega arith)
row-none false n position l e = refl

module _ (f : ℕ → ℕ) where
  pub first_start : first_of f 0 ≡ passed
  unfolding first_of
  first_start = refl

  first_suc : (i : ℕ) → first_of f (suc i) ≡ first_refusal (first_of f i) (refusal_at i (f i))
  unfolding first_of
  first_suc i = refl

  -- a place with no number leaves what is known
  pub first_more : (i : ℕ) → first_of f i ≡ passed → f i ≡ 0 → first_of f (i + 1) ≡ passed
  first_more i h e = rw (add-one i, first_suc i, h, e)

  -- the first place with a number, and every later end
  pub first_found : (i n : ℕ) → first_of f i ≡ passed → (f i ≡ 0 → ⊥) → i < n → first_of f n ≡ refusal (f i) i
  first_found i n h e =
      le_ind (λ (m : ℕ). first_of f m ≡ refusal (f i) i)
      (rw (first_suc i, h, ne_eqb (f i) 0 e))
      (λ m l ih. rw (first_suc m, ih, ne_eqb (f i) 0 e))
      n

  -- where none is found there is none
  pub first_none : (n : ℕ) → (first_of f n).number ≡ 0 → (i : ℕ) → i < n → f i ≡ 0
  first_none zero h i l = omega arith
  first_none (suc n) h i l = cases (first_none n split.0) (dec_lt i n)
    where
      split : ((first_of f n).number ≡ 0) × ((refusal_at n (f n)).number ≡ 0)
      split = or_none (first_of f n) (refusal_at n (f n)) (rw (first_suc n) at h)

      cases : ((j : ℕ) → j < n → f j ≡ 0) → Dec (i < n) → f i ≡ 0
      cases ih (yes m) = ih i m
      cases ih (no m) = let e : i ≡ n = omega arith in rw e (sym (at-number n (f n)) ∙ split.1)

-- results of rows: the first of two, one after the other, and a row alone
pub ruled-passed : {T : Type 0} (r : Refusal) (x : T) → r.number ≡ 0 → ruled r x ≡ Ok x
ruled-passed r x e = rw (eq-eqb r.number 0 e)

pub ruled-refused : {T : Type 0} (r : Refusal) (x : T) → (r.number ≡ 0 → ⊥) → ruled r x ≡ Err r
ruled-refused r x h = rw (ne_eqb r.number 0 h)

-- the value of a result, the refusal of one
abbrev value-or : {T E : Type 0} → T → Result T E → T
value-or d (Ok x) = x
value-or d (Err e) = d

abbrev error-or : {T E : Type 0} → E → Result T E → E
error-or d (Ok x) = d
error-or d (Err e) = e

-- the refusal that is handed on where rows refuse
pub err-ruled : {T : Type 0} {r e : Refusal} (x : T) → e ≡ r → (r.number ≡ 0 → ⊥) → Err e ≡ ruled r x
err-ruled {r} x q h = rw (q, ne_eqb r.number 0 h)

pub handed_on : {T : Type 0} {r e : Refusal} (x : T) (result : Result T Refusal) → IsErrAnd result (λ f. f ≡ e) → e ≡ r → (r.number ≡ 0 → ⊥)
    → result ≡ ruled r x
handed_on x (Ok y) a q h = absurd a
handed_on x (Err f) a q h = err-ruled x (a ∙ q) h

-- what a result of rows tells of them
module _ {T : Type 0} (r : Refusal) (x : T) where
  pub ok-passed : {y : T} → Ok y ≡ ruled r x → (r.number ≡ 0) × (y ≡ x)
  ok-passed {y} = go (eqb r.number 0) refl
    where
      go : (t : Bool) → eqb r.number 0 ≡ t → Ok y ≡ cond t (Ok x) (Err r) → (r.number ≡ 0) × (y ≡ x)
      go true e h = (eqb-true r.number 0 e, ap (value-or y) h)
      go false e h = absurd (true≢false (ap is_ok h))

  pub err-refused : {e : Refusal} → Err e ≡ ruled r x → (r.number ≡ 0 → ⊥) × (e ≡ r)
  err-refused {e} = go (eqb r.number 0) refl
    where
      go : (t : Bool) → eqb r.number 0 ≡ t → Err e ≡ cond t (Ok x) (Err r) → (r.number ≡ 0 → ⊥) × (e ≡ r)
      go true q h = absurd (true≢false (sym (ap is_ok h)))
      go false q h = (eqb-false r.number 0 q, ap (error-or e) h)

-- the first row that fits at a word of a list, by the library's search for it
module _ (number : ℕ) (test : ℕ → Bool) (ws : List ℕ) (some : 0 < number) where
  abbrev at-word : ℕ → ℕ
  at-word i = cond (test (get_or ws i 0)) number 0

  passed-before : (n : ℕ) → n ≤ position_or_len test ws → first_of at-word n ≡ passed
  passed-before zero l = first_start at-word
  passed-before (suc n) l =
      rw (add-one n) at (first_more at-word n (passed-before n (omega arith)) (rw (fails_before_first test ws n 0 (omega arith))))

  pub position-first : refused_at number (position test ws) ≡ ruled (first_of at-word (length ws)) tt
  position-first = cases (dec_lt at (length ws))
    where
      at : ℕ
      at = position_or_len test ws

      cases : Dec (at < length ws) → refused_at number (position test ws) ≡ ruled (first_of at-word (length ws)) tt
      cases (yes l) =
          let hit : at-word at ≡ number = rw (passes_at_first test ws 0 l) in
          rw (lt-ltb at (length ws) l, first_found at-word at (length ws) (passed-before at (omega arith)) (λ e. omega (arith, hit, e)) l, hit, ne_eqb number 0 (λ e. omega arith))
      cases (no h) =
          rw (le-ltb at (length ws) (omega arith), passed-before (length ws) (omega arith))

-- what a number that may be none tells of it
abbrev some-or : ℕ → Option ℕ → ℕ
some-or d None = d
some-or d (Some n) = n

pub any-number : {m : ℕ} (n : ℕ) → Some m ≡ if_any n → (m ≡ n) × (n ≡ 0 → ⊥)
any-number {m} n = go (eqb n 0) refl
  where
    go : (t : Bool) → eqb n 0 ≡ t → Some m ≡ cond t None (Some n) → (m ≡ n) × (n ≡ 0 → ⊥)
    go true e h = absurd (true≢false (ap is_some h))
    go false e h = (ap (some-or m) h, eqb-false n 0 e)

pub no_number : (n : ℕ) → None ≡ if_any n → n ≡ 0
no_number n = go (eqb n 0) refl
  where
    go : (t : Bool) → eqb n 0 ≡ t → None ≡ cond t None (Some n) → n ≡ 0
    go true e h = eqb-true n 0 e
    go false e h = absurd (true≢false (sym (ap is_some h)))
