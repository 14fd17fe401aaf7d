-- The refusal of any job, of any length, fits the fields of an answer. Assumes nothing.
use mathlib.Core.Bool.{Bool, true, false, not}
use mathlib.Core.List.{List}
use mathlib.Core.Path.{◌≡◌, refl}
use Prim.Native.Nat.{ℕ, ◌-◌, ◌^◌, ◌<◌, ◌≤◌}
use native.Mathlib.Omega.{arith}
use lib.Dec.{eqb}
use lib.ListN.{length, get_or}
use Rattle.words.specs.Tests.{within}
use Rattle.words.specs.Fields.{kind, actions_of}
use Rattle.words.proofs.Choices.{within-true, cond-all}
use Rattle.answers.specs.Rows.{row, first_refusal, first_of}
use Rattle.answers.proofs.Range.{Fitting, or_fits, row_fits, first_fits}
use Rattle.job.specs.Rules.{word_refusal_of}
use Rattle.job.specs.Follow.{predecessor, may_follow}
use Rattle.job.specs.Before.{before, count_of_kind, named}
use Rattle.job.specs.Refusal.{word_refusal, refusal_of, name_refusal, empty_set, end_refusal, job_refusal}
use Rattle.job.proofs.Before.{count-before}

abbrev Low : ℕ → Type 0
Low n = n < 2 ^ 8

tests_number : (a b c : Bool) → word_refusal_of a b c < 2 ^ 8
unfolding word_refusal_of
tests_number a b c = cond-all Low a (cond-all Low b (cond-all Low c (omega arith) (omega arith)) (omega arith)) (omega arith)

word_number : (head : ℕ) (p : List ℕ) (w : ℕ) → word_refusal head p w < 2 ^ 8
unfolding word_refusal
word_number head p w =
    cond-all Low (may_follow (kind w) (predecessor p))
    (cond-all Low (eqb (kind w) 1) (tests_number _ _ _)
    (cond-all Low (eqb (kind w) 2) (tests_number _ _ _)
    (cond-all Low (eqb (kind w) 3) (tests_number _ _ _)
    (cond-all Low (eqb (kind w) 4) (tests_number _ _ _)
    (cond-all Low (eqb (kind w) 5) (tests_number _ _ _)
    (cond-all Low (eqb (kind w) 6) (tests_number _ _ _)
    (cond-all Low (eqb (kind w) 7) (tests_number _ _ _)
    (cond-all Low (eqb (kind w) 8) (tests_number _ _ _)
    (cond-all Low (eqb (kind w) 12) (tests_number _ _ _)
    (cond-all Low (eqb (kind w) 13) (tests_number _ _ _) (cond-all Low (eqb (kind w) 14) (tests_number _ _ _) (omega arith))))))))))))
    (omega arith)

refusal-number : (job : List ℕ) (i : ℕ) → refusal_of job i < 2 ^ 8
unfolding refusal_of
refusal-number job i = word_number (get_or job 0 0) (before job i) (get_or job i 0)

name_number : (p : List ℕ) (v : ℕ) → name_refusal p v < 2 ^ 8
unfolding name_refusal
name_number p v = cond-all Low (eqb (named v p) 1) (omega arith) (omega arith)

end_fits : (job : List ℕ) → length job ≤ 2048 → Fitting (end_refusal (get_or job 0 0) (length job) (before job (length job)))
unfolding end_refusal
end_fits job l =
    let p = before job (length job) in
    let few = count-before 6 job (length job) in
    or_fits _ _ (row_fits (not (eqb (count_of_kind 3 p) (actions_of (get_or job 0 0)))) 3 (length job) (omega arith) (omega arith))
    (or_fits _ _ (row_fits (eqb (count_of_kind 6 p) 0) 5 0 (omega arith) (omega arith))
    (or_fits _ _ (row_fits (empty_set p) 5 (count_of_kind 6 p - 1) (omega arith) (omega arith))
    (first_fits (name_refusal p) (name_number p) (count_of_kind 6 p - 1) (omega arith))))

pub job_fits : (job : List ℕ) → Fitting (job_refusal job)
unfolding job_refusal
job_fits job = cases (within 1 2048 (length job)) refl
  where
    cases : (t : Bool) → within 1 2048 (length job) ≡ t
        → Fitting (first_refusal (row (not t) 1 0) (first_refusal (first_of (refusal_of job) (length job)) (end_refusal (get_or job 0 0) (length job) (before job (length job)))))
    cases false e = row_fits true 1 0 (omega arith) (omega arith)
    cases true e =
        let l = (within-true 1 2048 (length job) e).1 in
        or_fits _ _ (first_fits (refusal_of job) (refusal-number job) (length job) (omega arith)) (end_fits job l)
