-- The rows on starts, one after the other: which of them is the answer of a plan. Assumes nothing.
use mathlib.Core.List.{List}
use mathlib.Core.Path.{◌≡◌, sym, ◌∙◌}
use Prim.Native.Nat.{ℕ}
use lib.ListN.{length}
use Rattle.answers.specs.declared.Refusal.{Refusal}
use Rattle.answers.proofs.Rows.{or_refused, or_passed}
use Rattle.job.specs.Refusal.{job_refusal}
use Rattle.starts.specs.Rows.{outside_windows, group_exceeded, needs_unmet, rows_refusal, starts_refusal}
use Rattle.starts.specs.Code.Given.{time_rows}
use Rattle.starts.proofs.Rows.{row_answer, starts_by_rows}
use Rattle.theory.specs.Answers.{plan_refusal}

module _ (job starts : List ℕ) (good : (job_refusal job).number ≡ 0) where
  -- rows 1 to 5 pass, so that the rows on starts are the answer
  pub starts-rows : starts_refusal job starts ≡ plan_refusal job starts
  unfolding plan_refusal
  starts-rows = or_passed (job_refusal job) (starts_refusal job starts) good

  abbrev times : Refusal
  times = rows_refusal (time_rows job starts) (length starts)

  abbrev outside : Refusal
  outside = row_answer job starts 15 (outside_windows job starts)

  abbrev over : Refusal
  over = row_answer job starts 16 (group_exceeded job starts)

  abbrev unmet : Refusal
  unmet = row_answer job starts 10 (needs_unmet job starts)

  -- each row that fits, where none before it does; the last one is the answer then
  pub by_times : (times.number ≡ 0 → ⊥) → times ≡ plan_refusal job starts
  by_times n = or_refused times _ n ∙ sym (starts_by_rows job starts) ∙ starts-rows

  module _ (t : times.number ≡ 0) where
    pub by_windows : (outside.number ≡ 0 → ⊥) → outside ≡ plan_refusal job starts
    by_windows n = or_refused outside _ n ∙ or_passed times _ t ∙ sym (starts_by_rows job starts) ∙ starts-rows

    module _ (w : outside.number ≡ 0) where
      pub by_groups : (over.number ≡ 0 → ⊥) → over ≡ plan_refusal job starts
      by_groups n = or_refused over unmet n ∙ or_passed outside _ w ∙ or_passed times _ t ∙ sym (starts_by_rows job starts) ∙ starts-rows

      pub by_needs : over.number ≡ 0 → unmet ≡ plan_refusal job starts
      by_needs g = or_passed over unmet g ∙ or_passed outside _ w ∙ or_passed times _ t ∙ sym (starts_by_rows job starts) ∙ starts-rows
