-- The rows of the four calls, and what they leave in the lent words. Assumes nothing.
use mathlib.Core.Bool.{Bool, true, false, cond}
use mathlib.Core.List.{List, [], ◌∷◌}
use mathlib.Core.Logic.{by_cases}
use mathlib.Core.Path.{◌≡◌, refl, ap, sym, ◌∙◌}
use Prim.Native.Nat.{ℕ, ◌≤◌, ◌<◌}
use native.Mathlib.Decide.{dec_lt}
use native.Mathlib.Omega.{arith}
use borrow.Author.Tests.{lt-ltb, le-ltb, ne_eqb}
use lib.Dec.{eqb, ltb}
use lib.ListN.{length}
use Rattle.std.specs.Prelude.{Result, Ok, Err}
use Rattle.std.specs.Result.{IsErrAnd}
use Rattle.answers.specs.declared.Refusal.{Refusal}
use Rattle.answers.specs.Rows.{refusal, passed, first_refusal, first_row}
use Rattle.answers.proofs.Rows.{or_none, or_refused, or_passed, or_assoc, err-ruled}
use Rattle.job.specs.Refusal.{job_refusal}
use Rattle.theory.specs.Answers.{buffer_refusal, fact_room_refusal}
use Rattle.theory.specs.Code.Judged.{room_rows}
use Rattle.moves.specs.Trials as trials
use Rattle.moves.specs.Trials.{Move, trial_refusal, move_refusal}
use Rattle.moves.specs.Calls.{trial_in, handed_back, trial_room_refusal}
use Rattle.trial.specs.Code.Given.{shown_refusal}
use Rattle.trial.specs.Code.Called.{short_rows, begin_rows, move_rows, few_rows}
use Rattle.answers.specs.declared.Answer.{Answer}
use Rattle.answers.specs.Code.Ruled.{answered, ruled}
use Rattle.answers.proofs.Rows.{answer_refused}
use Rattle.theory.specs.Answers.{written}
use Rattle.theory.proofs.Laws.{answered_ruled}
use Rattle.moves.specs.Trials.{after}
use Rattle.moves.specs.Calls.{show_answer, shown_facts}
use Rattle.trial.specs.declared.Trial.{Trial}
use Rattle.trial.specs.declared.Moved.{Moved}
use Rattle.trial.specs.Stepped.{trial_of, Stepped, show_answer_of}

-- words too few for a trial are refused, whatever rows come before
never_short : (rows : Refusal) → (first_refusal rows (refusal 14 0)).number ≡ 0 → ⊥
never_short rows z = let p = or_none rows (refusal 14 0) z in let q : ◌≡◌ {A = ℕ} 14 0 = p.1 in omega arith

-- the job's row a second time says nothing new
same_first : (a b : Refusal) → first_refusal a b ≡ first_refusal a (first_refusal a b)
same_first a b = cases (eqb a.number 0)
  where
    cases : (t : Bool) → cond t b a ≡ cond t (cond t b a) a
    cases true = refl
    cases false = refl

module _ (job words : List ℕ) where
  -- few words: the job's refusal or 14
  module _ (short : length words < 4098) where
    pub short_job : ((job_refusal job).number ≡ 0 → ⊥) → job_refusal job ≡ short_rows job words
    short_job n = or_refused (job_refusal job) (refusal 14 0) n ∙ rw (lt-ltb (length words) 4098 short)

    pub short_words : (job_refusal job).number ≡ 0 → refusal 14 0 ≡ short_rows job words
    short_words z = or_passed (job_refusal job) (refusal 14 0) z ∙ rw (lt-ltb (length words) 4098 short)

    pub short_begin : (job_refusal job).number ≡ 0 → refusal 14 0 ≡ begin_rows (length words) job
    short_begin z = or_passed (job_refusal job) (refusal 14 0) z ∙ rw (lt-ltb (length words) 4098 short)

  pub enough_clear : 4098 ≤ length words → (short_rows job words).number ≡ 0
  enough_clear l = rw (le-ltb (length words) 4098 l)

  pub enough_words : (short_rows job words).number ≡ 0 → 4098 ≤ length words
  enough_words z = by_cases (dec_lt (length words) 4098) (λ l. absurd (never_short (job_refusal job) (rw (lt-ltb (length words) 4098 l) at z))) (λ g. omega arith)

  -- the rows of a move: those before it, or its own
  module _ (m : Move) where
    pub lent_refused : ((short_rows job words).number ≡ 0 → ⊥) → short_rows job words ≡ move_rows job words m
    lent_refused = cases (ltb (length words) 4098)
      where
        cases : (t : Bool) → ((cond t (first_refusal (job_refusal job) (refusal 14 0)) passed).number ≡ 0 → ⊥)
            → cond t (first_refusal (job_refusal job) (refusal 14 0)) passed
            ≡ first_refusal (job_refusal job) (first_refusal (cond t (refusal 14 0) passed) (move_refusal job (trial_in words) m))
        cases true n = refl
        cases false n = absurd (n refl)

    pub lent_passed : (short_rows job words).number ≡ 0 → move_refusal job (trial_in words) m ≡ move_rows job words m
    unfolding move_refusal
    lent_passed = cases (ltb (length words) 4098)
      where
        cases : (t : Bool) → (cond t (first_refusal (job_refusal job) (refusal 14 0)) passed).number ≡ 0
            → move_refusal job (trial_in words) m
            ≡ first_refusal (job_refusal job) (first_refusal (cond t (refusal 14 0) passed) (move_refusal job (trial_in words) m))
        cases true z = absurd (never_short (job_refusal job) z)
        cases false z = same_first (job_refusal job) _

  -- enough words: beginning has the rows of the job
  pub enough_begin : 4098 ≤ length words → ruled {T = ℕ} (job_refusal job) 0 ≡ ruled (begin_rows (length words) job) 0
  enough_begin l = cases (eqb (job_refusal job).number 0) refl ∙ rw (le-ltb (length words) 4098 l)
    where
      cases : (t : Bool) → eqb (job_refusal job).number 0 ≡ t → ruled {T = ℕ} (job_refusal job) 0 ≡ ruled (first_refusal (job_refusal job) passed) 0
      cases true e = rw e
      cases false e = rw (e, e)

  -- what a method handed back
  module _ (m : Move) {t : Trial} {M : Moved} (h : Stepped job t m M) (clear : (short_rows job words).number ≡ 0) (said : trial_of t ≡ trial_in words) where
    pub stepped_rows : M.refusal ≡ move_rows job words m
    stepped_rows = h.refusal ∙ ap (λ (T : trials.Trial). move_refusal job T m) said ∙ lent_passed m clear

    pub stepped_trial : trial_of M.trial ≡ after job (trial_in words) m
    stepped_trial = h.trial ∙ ap (λ (T : trials.Trial). after job T m) said

-- showing: too few words are refused by one of the rows that were run, and enough are shown as the method does
module _ (job words buffer : List ℕ) where
  never_few : (few_rows (length buffer) job).number ≡ 0 → ⊥
  never_few z =
      let p = or_none (buffer_refusal (length buffer)) _ z in
      let q = or_none (job_refusal job) _ p.1 in
      never_short (fact_room_refusal (length buffer) job) q.1

  pub short_shown : {r : Answer} → length words < 4098 → r ≡ answered (ruled (few_rows (length buffer) job) 0)
      → (r ≡ show_answer (length buffer) job words) × (buffer ≡ written r (shown_facts job (trial_in words)) buffer)
  unfolding show_answer
  short_shown {r} short is =
      let rows = few_rows (length buffer) job in
      let said = is ∙ answered_ruled rows 0 in (
        said ∙ answer_refused rows 0 0 (length (shown_facts job (trial_in words))) 0 never_few ∙ rw (lt-ltb (length words) 4098 short),
        rw (said, ne_eqb rows.number 0 never_few),
      )

  pub short_buffer : {r : Answer} {e : Refusal} → e ≡ buffer_refusal (length buffer) → ((buffer_refusal (length buffer)).number ≡ 0 → ⊥) → r ≡ answered (Err e)
      → (r ≡ show_answer (length buffer) job words) × (buffer ≡ written r (shown_facts job (trial_in words)) buffer)
  unfolding show_answer
  short_buffer {r} {e} row never is =
      let rows = first_row (buffer_refusal (length buffer) ∷ job_refusal job ∷ fact_room_refusal (length buffer) job ∷ trial_room_refusal (length words) ∷ trial_refusal job (trial_in words) ∷ []) in
      let fits : e ≡ rows = row ∙ or_refused (buffer_refusal (length buffer)) _ never in
      let none : rows.number ≡ 0 → ⊥ = λ z. never (ap (λ (f : Refusal). f.number) (sym row ∙ fits) ∙ z) in (
        is ∙ ap answered (err-ruled (length (shown_facts job (trial_in words))) fits none) ∙ answered_ruled rows _,
        rw is refl,
      )

  pub enough_shown : {r : Answer} → 4098 ≤ length words → (t : Trial) → trial_of t ≡ trial_in words → r ≡ show_answer_of (length buffer) job (trial_of t)
      → {left : List ℕ} → left ≡ written r (shown_facts job (trial_of t)) buffer
      → (r ≡ show_answer (length buffer) job words) × (left ≡ written r (shown_facts job (trial_in words)) buffer)
  unfolding show_answer show_answer_of
  enough_shown {r} room t said is put = (
    is ∙ ap (λ (T : trials.Trial). show_answer_of (length buffer) job T) said ∙ rw (le-ltb (length words) 4098 room),
    put ∙ ap (λ (T : trials.Trial). written r (shown_facts job T) buffer) said,
  )

-- the rows on showing a trial: the first that fits
module _ (room : ℕ) (job : List ℕ) (T : trials.Trial) where
  pub shown_short : ((buffer_refusal room).number ≡ 0 → ⊥) → buffer_refusal room ≡ shown_refusal room job T
  shown_short n = or_refused (buffer_refusal room) _ n

  module _ (b : (buffer_refusal room).number ≡ 0) where
    pub shown_job : ((room_rows room job).number ≡ 0 → ⊥) → room_rows room job ≡ shown_refusal room job T
    shown_job n = or_refused (room_rows room job) (trial_refusal job T) n ∙ sym (or_assoc (job_refusal job) _ (trial_refusal job T)) ∙ or_passed (buffer_refusal room) _ b

    pub shown_trial : (room_rows room job).number ≡ 0 → trial_refusal job T ≡ shown_refusal room job T
    shown_trial z =
        let e = or_none (job_refusal job) (fact_room_refusal room job) z in
        or_passed (fact_room_refusal room job) (trial_refusal job T) e.1 ∙ or_passed (job_refusal job) _ e.0 ∙ or_passed (buffer_refusal room) _ b

-- a refusal leaves the words
pub refused_keeps_words : (e : Refusal) (result : Result ℕ Refusal) (T : trials.Trial) (words : List ℕ) → IsErrAnd result (λ f. f ≡ e) → words ≡ handed_back (answered result) T words
refused_keeps_words e (Ok n) T words a = absurd a
refused_keeps_words e (Err f) T words a = refl
