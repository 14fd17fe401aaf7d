-- The rule of a word by its kind, and what the rules bound. Assumes nothing.
use mathlib.Core.Bool.{Bool, true, false, not, cond, ◌&&◌}
use mathlib.Core.List.{List}
use mathlib.Core.Path.{◌≡◌, refl, ap, sym, ◌∙◌}
use Prim.Native.Nat.{ℕ, zero, suc, ◌+◌, ◌-◌, ◌≤◌, ◌<◌}
use native.Mathlib.Numerals.{add-one}
use native.Mathlib.Omega.{arith}
use lib.Dec.{eqb, ltb}
use lib.ListN.{get_or, length}
use borrow.Author.Tests.{ne_eqb, eq-eqb, ltb-true, eqb-true, not-false}
use Rattle.words.specs.Tests.{indicator, within}
use Rattle.words.specs.Fields.{kind, action_number, actions_of}
use Rattle.words.proofs.Choices.{both_true}
use Rattle.answers.specs.Rows.{refusal, row, first_refusal, first_of}
use Rattle.answers.proofs.Rows.{first_none, or_none, row-none}
use Rattle.job.specs.Rules.{word_refusal_of, limited}
use Rattle.job.specs.Before.{before, count_of_kind}
use Rattle.job.specs.Follow.{by_kind, predecessor, may_follow}
use Rattle.job.specs.Refusal.{rules, word_refusal, refusal_of, name_refusal, empty_set, end_refusal, job_refusal}
use Rattle.job.proofs.Before.{count-more, count_none}

module _ (job : List ℕ) (i : ℕ) where
  -- whether it may follow the word before, if it is of kind k, and what the rule of kind k says of it
  abbrev pub followed : ℕ → Bool
  followed k = may_follow k (predecessor (before job i))

  abbrev pub ruled : ℕ → ℕ
  ruled k = by_kind 2 k (rules (get_or job 0 0) (before job i) (get_or job i 0))

  module _ (k : ℕ) (h : kind (get_or job i 0) ≡ k) where
    pub at-kind : refusal_of job i ≡ cond (followed k) (ruled k) 2
    unfolding refusal_of word_refusal
    at-kind = ap (λ (m : ℕ). cond (followed m) (ruled m) 2) h

    pub may_not : followed k ≡ false → refusal_of job i ≡ 2
    may_not e = at-kind ∙ rw e

    pub may : followed k ≡ true → refusal_of job i ≡ ruled k
    may e = at-kind ∙ rw e

    -- a word that is not refused may follow, and passes its rule
    pub passes : refusal_of job i ≡ 0 → (followed k ≡ true) × (ruled k ≡ 0)
    passes e = cases (followed k) refl (sym at-kind ∙ e)
      where
        cases : (t : Bool) → followed k ≡ t → cond t (ruled k) 2 ≡ 0 → (followed k ≡ true) × (ruled k ≡ 0)
        cases true f z = (f, z)
        cases false f z = absurd (omega arith)

-- what a word that is not refused passes
pub tests_passed : (shape range fresh : Bool) → word_refusal_of shape range fresh ≡ 0 → (shape ≡ true) × (range ≡ true) × (fresh ≡ true)
unfolding word_refusal_of
tests_passed false b c e = absurd (omega arith)
tests_passed true false c e = absurd (omega arith)
tests_passed true true false e = absurd (omega arith)
tests_passed true true true e = (refl, refl, refl)

pub within-limit : (most count : ℕ) (shape range : Bool) → limited most count shape range ≡ 0 → (shape ≡ true) × (count < most) × (range ≡ true)
within-limit most count shape range e =
    let g = tests_passed shape (ltb count most && range) true e in
    let b = both_true (ltb count most) range g.1 in
    (g.0, ltb-true count most b.0, b.1)

module _ (job : List ℕ) where
  -- at most 64 words of a kind, where each is declared with fewer before it
  bounded : (k n : ℕ) → ((i : ℕ) → i < n → kind (get_or job i 0) ≡ k → count_of_kind k (before job i) < 64) → count_of_kind k (before job n) ≤ 64
  bounded k zero h = omega (arith, count_none job k)
  bounded k (suc n) h =
      cases (eqb (kind (get_or job n 0)) k) refl (bounded k n (λ i l. h i (omega arith))) (rw (add-one n) at (count-more job n k))
    where
      cases : (t : Bool) → eqb (kind (get_or job n 0)) k ≡ t → count_of_kind k (before job n) ≤ 64
          → count_of_kind k (before job (suc n)) ≡ count_of_kind k (before job n) + indicator (eqb (kind (get_or job n 0)) k) → count_of_kind k (before job (suc n)) ≤ 64
      cases true e ih more =
          let here : count_of_kind k (before job n) < 64 = h n (omega arith) (eqb-true (kind (get_or job n 0)) k e) in
          omega (arith, rw e at more)
      cases false e ih more = omega (arith, rw e at more)

  module _ (none : (first_of (refusal_of job) (length job)).number ≡ 0) where
    -- each word may follow the one before, and the rule of its kind does not refuse it
    pub word_passed : (k i : ℕ) → i < length job → kind (get_or job i 0) ≡ k → (followed job i k ≡ true) × (ruled job i k ≡ 0)
    word_passed k i l h = passes job i k h (first_none (refusal_of job) (length job) none i l)

    -- a kind whose rule lets a word pass only with fewer than 64 before it
    abbrev pub Limits : ℕ → Type 0
    Limits k = (p : List ℕ) (w : ℕ) → by_kind 2 k (rules (get_or job 0 0) p w) ≡ 0 → count_of_kind k p < 64

    pub few : (k : ℕ) → Limits k → count_of_kind k (before job (length job)) ≤ 64
    few k limits = bounded k (length job) (λ i l h. limits (before job i) (get_or job i 0) (word_passed k i l h).1)

    pub limits_actions : Limits 3
    limits_actions p w e = let n = eqb-true (action_number w) _ (both_true _ _ (tests_passed _ _ _ e).1).0 in omega (arith, n)

    pub limits_formulas : Limits 5
    limits_formulas p w e = (within-limit 64 (count_of_kind 5 p) _ _ e).1

    pub limits_nodes : Limits 6
    limits_nodes p w e = (within-limit 64 (count_of_kind 6 p) _ _ e).1

  -- the three places of `job_refusal`
  pub by_length : not (within 1 2048 (length job)) ≡ true → job_refusal job ≡ refusal 1 0
  unfolding job_refusal
  by_length h = rw h

  module _ (fits : not (within 1 2048 (length job)) ≡ false) where
    pub by_words : ((first_of (refusal_of job) (length job)).number ≡ 0 → ⊥) → job_refusal job ≡ first_of (refusal_of job) (length job)
    unfolding job_refusal
    by_words h = rw (fits, ne_eqb _ 0 h)

    pub by_end : (first_of (refusal_of job) (length job)).number ≡ 0
        → job_refusal job ≡ end_refusal (get_or job 0 0) (length job) (before job (length job))
    unfolding job_refusal
    by_end h = rw (fits, eq-eqb _ 0 h)

-- the three places of a job that is not refused: none gives a number
pub record Clear (job : List ℕ) : Type 0 where
  pub size : (row (not (within 1 2048 (length job))) 1 0).number ≡ 0
  pub words : (first_of (refusal_of job) (length job)).number ≡ 0
  pub end : (end_refusal (get_or job 0 0) (length job) (before job (length job))).number ≡ 0

pub clear : (job : List ℕ) → (job_refusal job).number ≡ 0 → Clear job
unfolding job_refusal
clear job ok =
    let a = or_none (row (not (within 1 2048 (length job))) 1 0) _ ok in
    let b = or_none (first_of (refusal_of job) (length job)) (end_refusal (get_or job 0 0) (length job) (before job (length job))) a.1 in
    record { size = a.0; words = b.0; end = b.1 }

-- the rows of its end, one by one
pub record EndClear (job : List ℕ) : Type 0 where
  pub counted : count_of_kind 3 (before job (length job)) ≡ actions_of (get_or job 0 0)
  pub some : eqb (count_of_kind 6 (before job (length job))) 0 ≡ false
  pub filled : empty_set (before job (length job)) ≡ false
  pub named : (first_of (name_refusal (before job (length job))) (count_of_kind 6 (before job (length job)) - 1)).number ≡ 0

pub end_clear : (job : List ℕ) → Clear job → EndClear job
unfolding end_refusal
end_clear job c =
    let p = before job (length job) in
    let miscounted = not (eqb (count_of_kind 3 p) (actions_of (get_or job 0 0))) in
    let r1 = row miscounted 3 (length job) in
    let r2 = row (eqb (count_of_kind 6 p) 0) 5 0 in
    let r3 = row (empty_set p) 5 (count_of_kind 6 p - 1) in
    let r4 = first_of (name_refusal p) (count_of_kind 6 p - 1) in
    let a = or_none r1 (first_refusal r2 (first_refusal r3 r4)) c.end in
    let b = or_none r2 (first_refusal r3 r4) a.1 in
    let d = or_none r3 r4 b.1 in
    record {
      counted = eqb-true _ _ (not-false _ (row-none miscounted 3 (length job) (omega arith) a.0));
      some = row-none (eqb (count_of_kind 6 p) 0) 5 0 (omega arith) b.0;
      filled = row-none (empty_set p) 5 (count_of_kind 6 p - 1) (omega arith) d.0;
      named = d.1;
    }
