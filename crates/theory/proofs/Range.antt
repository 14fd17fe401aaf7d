-- Whatever the lists of 32-bit words, of any length, the answers of check and fill fit their fields. Assumes nothing.
use mathlib.Core.List.{List, [], ◌∷◌}
use Prim.Native.Nat.{ℕ, suc, ◌+◌, ◌^◌, ◌≤◌, ◌<◌}
use native.Mathlib.Omega.{arith}
use lib.Dec.{eqb, ltb}
use lib.ListN.{length, get_or}
use Rattle.words.proofs.Choices.{cond-all}
use Rattle.answers.specs.Code.Packed.{InRange}
use Rattle.answers.proofs.Rows.{or_none}
use Rattle.answers.proofs.Range.{Fitting, refusal-fits, passed-fits, next_fits, or_fits, row_fits, answer_fits}
use Rattle.job.specs.Refusal.{job_refusal}
use Rattle.job.proofs.Fits.{job_fits}
use Rattle.facts.specs.Facts.{facts_of}
use Rattle.starts.specs.Rows.{starts_refusal}
use Rattle.starts.proofs.RefusalFits.{starts_fit}
use Rattle.theory.proofs.Laws.{fill_rows_lem, room_plan, check_rows_lem}
use Rattle.theory.proofs.Passing.{few_facts}
use Rattle.theory.specs.Code.Judged.{room_rows}
use Rattle.words.specs.Fields.{fact_room}
use Rattle.words.proofs.Wide.{room_most}
use Rattle.job.specs.Parts.{head_word}
use Rattle.theory.specs.Answers.{buffer_refusal, fact_room_refusal, plan_refusal, facts_refusal, check_refusal, fill_refusal, check_answer, fill_answer}

differ_fits : (given wanted : List ℕ) (i : ℕ) → i + length wanted ≤ 16384 → Fitting (facts_refusal given wanted i)
unfolding facts_refusal
differ_fits [] [] i l = passed-fits
differ_fits [] (b ∷ wanted) i l = refusal-fits (omega arith) (omega arith)
differ_fits (a ∷ given) [] i l = refusal-fits (omega arith) (omega arith)
differ_fits (a ∷ given) (b ∷ wanted) i l = cond-all Fitting (eqb a b) (differ_fits given wanted (suc i) (omega arith)) (refusal-fits (omega arith) (omega arith))

module _ (job starts : List ℕ) (words : (i : ℕ) → get_or starts i 0 < 2 ^ 32) where
  plan_fits : Fitting (plan_refusal job starts)
  unfolding plan_refusal
  plan_fits = or_fits (job_refusal job) (starts_refusal job starts) (job_fits job) (starts_fit job starts words)

  pub check_fits : (facts : List ℕ) → Fitting (check_refusal job starts facts)
  check_fits facts =
      rw (check_rows_lem job starts facts)
      (next_fits (plan_refusal job starts) (facts_refusal facts (facts_of job starts) 0) plan_fits
      (λ e. differ_fits facts (facts_of job starts) 0 (omega (arith, few_facts job starts e, room_most (head_word job)))))

  pub check_range : (facts : List ℕ) → InRange (check_answer job starts facts)
  unfolding check_answer
  check_range facts = answer_fits (check_refusal job starts facts) 0 0 (check_fits facts) (λ e. (omega arith, omega arith))

  pub fill_range : (room : ℕ) → InRange (fill_answer room job starts)
  unfolding fill_answer
  fill_range room =
      let short = row_fits (ltb room 4096) 12 0 (omega arith) (omega arith) in
      let rows = or_fits (job_refusal job) (fact_room_refusal room job) (job_fits job) (row_fits (ltb room (fact_room (head_word job))) 12 0 (omega arith) (omega arith)) in
      answer_fits (fill_refusal room job starts) (length (facts_of job starts)) 0
      (rw fill_rows_lem (or_fits (buffer_refusal room) _ short (or_fits (room_rows room job) (starts_refusal job starts) rows (starts_fit job starts words))))
      (λ e. let clear = (room_plan room job starts (or_none (buffer_refusal room) _ (rw fill_rows_lem at e)).1).0 in (omega (arith, few_facts job starts clear, room_most (head_word job)), omega arith))
