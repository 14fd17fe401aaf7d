-- Laws of the answers: rows one after the other, the comparison of two lists, and words written from the front. Assumes nothing.
use mathlib.Core.Bool.{Bool, true, false, cond}
use mathlib.Core.List.{List, [], ◌∷◌, ◌++◌}
use mathlib.Core.Logic.{by_cases}
use mathlib.Core.Path.{◌≡◌, refl, sym, ap, ◌∙◌}
use Prim.Native.Nat.{ℕ, suc, ◌+◌, ◌≤◌, ◌<◌}
use native.Mathlib.Nat.{zero-add, add-zero, add-suc, suc-add}
use native.Mathlib.Numerals.{add-one}
use native.Mathlib.Omega.{arith}
use native.Mathlib.Decide.{dec_lt}
use borrow.Author.Tests.{eqb-true, eq-eqb, ne_eqb, le-ltb, ltb-false}
use lib.Dec.{eqb, ltb}
use lib.ListN.{length, get_or, take, drop, drop_of_length-le}
use lib.Seq.{sets, sets-eq, take-length, drop-drop}
use Rattle.words.proofs.Scan.{drop-next}
use Rattle.words.proofs.Copies.{sets_first}
use Rattle.answers.proofs.Rows.{or_none, or_refused, or_passed, or_assoc, row-none, handed_on, ok-passed, err-refused}
use Rattle.answers.specs.declared.Refusal.{Refusal}
use Rattle.std.specs.Prelude.{Result, Ok, Err}
use Rattle.std.specs.Result.{IsErrAnd}
use Rattle.answers.specs.declared.Answer.TheVariants.{Accepted, Refused}
use Rattle.answers.specs.Packed.{answer_of}
use Rattle.answers.specs.Rows.{refusal, passed, first_refusal}
use Rattle.words.specs.Fields.{fact_room}
use Rattle.job.specs.Parts.{head_word}
use Rattle.job.specs.Refusal.{job_refusal}
use Rattle.job.specs.declared.Index.{Index}
use Rattle.job.specs.Code.Index.{index_of}
use Rattle.starts.specs.Rows.{starts_refusal}
use Rattle.facts.specs.Facts.{facts_of}
use Rattle.facts.specs.Code.Written.{Filled}
use Rattle.theory.specs.Answers.{buffer_refusal, fact_room_refusal, plan_refusal, facts_refusal, check_refusal, fill_refusal, written}
use Rattle.theory.specs.Code.Judged.{room_rows, JobRuled, refusal_in}
use Rattle.theory.specs.Code.Compared.{part_refusal}
use Rattle.answers.specs.Code.Ruled.{RuledBy, answered, ruled}

-- row 12: where it does not fit, the buffer is long enough; where it fits, it is too short
module _ (room : ℕ) where
  pub has_room : (buffer_refusal room).number ≡ 0 → 4096 ≤ room
  has_room e = ltb-false room 4096 (row-none (ltb room 4096) 12 0 (omega arith) e)

  pub lacks_room : ((buffer_refusal room).number ≡ 0 → ⊥) → room < 4096
  lacks_room n = by_cases (dec_lt room 4096) (λ l. l) (λ g. absurd (n (rw (le-ltb room 4096 (omega arith)))))

-- a refusal that is handed on, by rows that give the same
pub handed_by : {T : Type 0} (P : T → Type 0) {r s e : Refusal} (result : Result T Refusal) → IsErrAnd result (λ f. f ≡ e) → e ≡ s → (s.number ≡ 0 → ⊥) → s ≡ r
    → RuledBy r P result
handed_by P (Ok x) a q n same = absurd a
handed_by P (Err f) a q n same = (a ∙ q ∙ same, λ z. n (ap (λ (r : Refusal). r.number) same ∙ z))

pub handed_same : {T : Type 0} (x : T) {r s e : Refusal} (result : Result T Refusal) → IsErrAnd result (λ f. f ≡ e) → e ≡ s → (s.number ≡ 0 → ⊥) → s ≡ r
    → result ≡ ruled r x
handed_same x result a q n same = handed_on x result a (q ∙ same) (λ z. n (ap (λ (r : Refusal). r.number) same ∙ z))

-- the answer of a call, by what its rows give
pub answered_ruled : (r : Refusal) (n : ℕ) → answered (ruled r n) ≡ answer_of r n 0
answered_ruled r n = cases (eqb r.number 0)
  where
    cases : (t : Bool) → answered (cond t (Ok n) (Err r)) ≡ cond t (Accepted n 0) (Refused r.number r.position 0)
    cases true = refl
    cases false = refl

-- where no row of the job fits, nor row 12 after them, there is room
pub room_enough : (room : ℕ) (job : List ℕ) → (room_rows room job).number ≡ 0 → ((job_refusal job).number ≡ 0) × (fact_room (head_word job) ≤ room)
room_enough room job e =
    let rows = or_none (job_refusal job) (fact_room_refusal room job) e in
    (rows.0, ltb-false room (fact_room (head_word job)) (row-none (ltb room (fact_room (head_word job))) 12 0 (omega arith) rows.1))

-- fill's rows: row 12, those of the job and row 12 again, those of the starts; where none fits, none of the plan's does, and there is room
module _ (room : ℕ) (job starts : List ℕ) where
  pub fill_rows_lem : fill_refusal room job starts ≡ first_refusal (buffer_refusal room) (first_refusal (room_rows room job) (starts_refusal job starts))
  unfolding fill_refusal
  fill_rows_lem = ap (first_refusal (buffer_refusal room)) (or_assoc (job_refusal job) (fact_room_refusal room job) (starts_refusal job starts))

  pub room_plan : (first_refusal (room_rows room job) (starts_refusal job starts)).number ≡ 0
      → ((plan_refusal job starts).number ≡ 0) × (fact_room (head_word job) ≤ room)
  unfolding plan_refusal
  room_plan e =
      let both = or_none (room_rows room job) (starts_refusal job starts) e in
      let rows = room_enough room job both.0 in
      (ap (λ r. r.number) (sym (or_passed (job_refusal job) (starts_refusal job starts) rows.0)) ∙ both.1, rows.1)

  -- once row 12 does not fit
  pub room_fill : (buffer_refusal room).number ≡ 0 → fill_refusal room job starts ≡ first_refusal (room_rows room job) (starts_refusal job starts)
  room_fill z = fill_rows_lem ∙ sym (or_passed (buffer_refusal room) _ z)

  -- the first of them that fits
  pub short_fill : ((buffer_refusal room).number ≡ 0 → ⊥) → fill_refusal room job starts ≡ buffer_refusal room
  short_fill n = fill_rows_lem ∙ sym (or_refused (buffer_refusal room) _ n)

-- what the rows of a job gave, as `judge` takes it
pub job_ruled : (rows : Refusal) (job : List ℕ) (r : Result Index Refusal) → r ≡ ruled rows (index_of job) → (rows.number ≡ 0 → (job_refusal job).number ≡ 0)
    → JobRuled job r
job_ruled rows job (Ok words) e h = let p = ok-passed _ _ e in record { good = h p.0; index = p.1 }
job_ruled rows job (Err f) e h = let p = err-refused _ _ e in λ z. p.0 (ap (λ (r : Refusal). r.number) (sym p.1) ∙ z)

pub rows_in : (rows : Refusal) (job : List ℕ) (r : Result Index Refusal) → r ≡ ruled rows (index_of job) → (s : Refusal)
    → first_refusal (refusal_in r) s ≡ first_refusal rows s
rows_in rows job (Ok words) e s = sym (or_passed passed s refl) ∙ or_passed _ s (ok-passed _ _ e).0
rows_in rows job (Err f) e s = rw (err-refused _ _ e).1

-- the rows of a job that none refuses, and those of the starts, are the plan's; so are check_job's
pub passed_plan : (job starts : List ℕ) → (job_refusal job).number ≡ 0 → first_refusal passed (starts_refusal job starts) ≡ plan_refusal job starts
unfolding plan_refusal
passed_plan job starts z = sym (or_passed passed (starts_refusal job starts) refl) ∙ or_passed (job_refusal job) (starts_refusal job starts) z

pub plan_in : (job starts : List ℕ) (r : Result Index Refusal) → r ≡ ruled (job_refusal job) (index_of job)
    → first_refusal (refusal_in r) (starts_refusal job starts) ≡ plan_refusal job starts
unfolding plan_refusal
plan_in job starts r e = rows_in (job_refusal job) job r e (starts_refusal job starts)

-- a refusal leaves the buffer
pub refused_leaves : (e : Refusal) (result : Result ℕ Refusal) (words buffer : List ℕ) → IsErrAnd result (λ f. f ≡ e) → buffer ≡ written (answered result) words buffer
refused_leaves e (Ok n) words buffer a = absurd a
refused_leaves e (Err f) words buffer a = refl

-- check's rows are those of the plan, and row 11 after them
pub check_rows_lem : (job starts facts : List ℕ) → check_refusal job starts facts ≡ first_refusal (plan_refusal job starts) (facts_refusal facts (facts_of job starts) 0)
unfolding check_refusal plan_refusal
check_rows_lem job starts facts = or_assoc (job_refusal job) (starts_refusal job starts) (facts_refusal facts (facts_of job starts) 0)

-- row 11 by a part of the wanted list: that part alone, then the rest
pub part_rest : (given part rest : List ℕ) (i : ℕ)
    → facts_refusal given (part ++ rest) i ≡ first_refusal (part_refusal given part i) (facts_refusal (drop (length part) given) rest (i + length part))
unfolding facts_refusal part_refusal
part_rest given [] rest i = rw add-zero
part_rest [] (b ∷ part) rest i = refl
part_rest (a ∷ given) (b ∷ part) rest i = cases (eqb a b) (part_rest given part rest (suc i))
  where
    cases : (t : Bool)
        → facts_refusal given (part ++ rest) (suc i) ≡ first_refusal (part_refusal given part (suc i)) (facts_refusal (drop (length part) given) rest (suc i + length part))
        → cond t (facts_refusal given (part ++ rest) (suc i)) (refusal 11 i) ≡ first_refusal (cond t (part_refusal given part (suc i)) (refusal 11 i)) (facts_refusal (drop (length part) given) rest (i + suc (length part)))
    cases true ih = rw (add-suc i (length part), ← suc-add i (length part)) ih
    cases false ih = refl

-- a part that passes stands there whole
pub part_inside : (given part : List ℕ) (i : ℕ) → (part_refusal given part i).number ≡ 0 → length part ≤ length given
unfolding part_refusal
part_inside given [] i e = omega arith
part_inside [] (b ∷ part) i e = absurd (omega arith)
part_inside (a ∷ given) (b ∷ part) i e = cases (eqb a b) e (part_inside given part (suc i))
  where
    cases : (t : Bool) → (cond t (part_refusal given part (suc i)) (refusal 11 i)).number ≡ 0 → ((part_refusal given part (suc i)).number ≡ 0 → length part ≤ length given)
        → suc (length part) ≤ suc (length given)
    cases true e ih = let l = ih e in omega arith
    cases false e ih = absurd (omega arith)

-- a part at position `at` that does not pass decides row 11, and one that passes leaves it to what stands after it
module _ (given part rest : List ℕ) (at : ℕ) where
  pub part_refuses : ((part_refusal (drop at given) part at).number ≡ 0 → ⊥) → part_refusal (drop at given) part at ≡ facts_refusal (drop at given) (part ++ rest) at
  part_refuses n = or_refused _ _ n ∙ sym (part_rest (drop at given) part rest at)

  pub part_passes : (part_refusal (drop at given) part at).number ≡ 0
      → facts_refusal (drop at given) (part ++ rest) at ≡ facts_refusal (drop (at + length part) given) rest (at + length part)
  part_passes e = part_rest (drop at given) part rest at ∙ sym (or_passed _ _ e) ∙ rw (drop-drop (length part) at given)

-- after the last part: the given list ends too, or goes on
module _ (given : List ℕ) (i : ℕ) where
  pub rest_none : length given ≤ i → facts_refusal (drop i given) [] i ≡ passed
  unfolding facts_refusal
  rest_none l = rw (drop_of_length-le given l)

  pub rest_some : i < length given → facts_refusal (drop i given) [] i ≡ refusal 11 i
  unfolding facts_refusal
  rest_some l = rw (drop-next given i l)

-- the comparison of a part at position `at` of the given list: its first i words are the same
module _ (given part : List ℕ) (at i : ℕ) where
  pub record Same : Type 0 where
    pub inside : at + i ≤ length given
    pub left : part_refusal (drop at given) part at ≡ part_refusal (drop (at + i) given) (drop i part) (at + i)

  -- the word after them is the same, or differs; the given list ends, or the part does
  module _ (same : Same) where
    module _ (g : at + i < length given) (w : i < length part) where
      pub part_differs : (get_or given (at + i) 0 ≡ get_or part i 0 → ⊥) → part_refusal (drop at given) part at ≡ refusal 11 (at + i)
      unfolding part_refusal
      part_differs e = same.left ∙ rw (drop-next given (at + i) g, drop-next part i w, ne_eqb _ _ e)

    pub given_ends : length given ≤ at + i → i < length part → part_refusal (drop at given) part at ≡ refusal 11 (at + i)
    unfolding part_refusal
    given_ends g w = same.left ∙ rw (drop_of_length-le given g, drop-next part i w)

    pub part_ends : length part ≤ i → part_refusal (drop at given) part at ≡ passed
    unfolding part_refusal
    part_ends w = same.left ∙ rw (drop_of_length-le part w)

module _ (given part : List ℕ) (at : ℕ) where
  pub same_start : at ≤ length given → Same given part at 0
  same_start l = record { inside = omega arith; left = rw add-zero }

  pub same_more : {i : ℕ} → Same given part at i → at + i < length given → i < length part → get_or given (at + i) 0 ≡ get_or part i 0 → Same given part at (i + 1)
  unfolding part_refusal
  same_more {i} same g w e = record {
    inside = omega arith;
    left =
        let far : at + (i + 1) ≡ at + i + 1 = omega arith in
        rw far (same.left ∙ rw (drop-next given (at + i) g, drop-next part i w, eq-eqb _ _ e, add-one (at + i)));
  }

-- row 11 passes exactly the equal list
pub equal_passes : (facts : List ℕ) (i : ℕ) → facts_refusal facts facts i ≡ passed
unfolding facts_refusal
equal_passes [] i = refl
equal_passes (a ∷ facts) i = rw (eq-eqb a a refl) (equal_passes facts (suc i))

pub passes_equal : (given wanted : List ℕ) (i : ℕ) → (facts_refusal given wanted i).number ≡ 0 → given ≡ wanted
unfolding facts_refusal
passes_equal [] [] i e = refl
passes_equal [] (b ∷ wanted) i e = absurd (omega arith)
passes_equal (a ∷ given) [] i e = absurd (omega arith)
passes_equal (a ∷ given) (b ∷ wanted) i e = cases (eqb a b) refl e (passes_equal given wanted (suc i))
  where
    cases : (t : Bool) → eqb a b ≡ t → (cond t (facts_refusal given wanted (suc i)) (refusal 11 i)).number ≡ 0
        → ((facts_refusal given wanted (suc i)).number ≡ 0 → given ≡ wanted) → a ∷ given ≡ b ∷ wanted
    cases true t e ih = rw (eqb-true a b t, ih e)
    cases false t e ih = absurd (omega arith)

-- words written from the front
sets_whole : (l vs : List ℕ) → length vs ≤ length l → sets l 0 vs ≡ take (length vs) vs ++ drop (length vs) l
sets_whole l vs h = sets-eq vs l 0 (rw zero-add h) ∙ rw (zero-add, take-length)

pub filled_front : {old words : List ℕ} {n : ℕ} {new : List ℕ} → Filled old words n new → length words ≤ length old
    → (take n new ≡ words) × (new ≡ take n words ++ drop n old)
filled_front {old} {words} {n} {new} f h = (
  rw (f.held, f.count) (sets_first old words h),
  rw (f.held, f.count) (sets_whole old words h),
)
