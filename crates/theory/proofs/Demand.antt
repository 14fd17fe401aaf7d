-- Demand 2: a plan passes exactly when no row on its job and starts fits and its facts are those of the rules; the list that fill writes
-- passes check. Assumes nothing.
use mathlib.Core.Bool.{Bool, true, false, cond}
use mathlib.Core.List.{List}
use mathlib.Core.Path.{◌≡◌, refl, ap, sym, ◌∙◌}
use Prim.Native.Nat.{ℕ}
use native.Mathlib.Omega.{arith}
use borrow.Author.Tests.{eqb-true}
use lib.Dec.{eqb}
use lib.ListN.{length, take}
use lib.Seq.{take_at, take-length}
use Rattle.answers.specs.declared.Answer.TheVariants.{Accepted, Refused}
use Rattle.answers.specs.Packed.{answer_of}
use Rattle.answers.proofs.Rows.{or_none, or_passed}
use Rattle.facts.specs.Facts.{facts_of}
use Rattle.theory.specs.Answers.{buffer_refusal, plan_refusal, facts_refusal, fill_refusal, check_answer, fill_answer, written}
use Rattle.theory.specs.Demand.{PassesExactly, FilledPasses}
use Rattle.theory.proofs.Laws.{fill_rows_lem, room_plan, check_rows_lem, equal_passes, passes_equal}

pub passes_exactly : PassesExactly
passes_exactly job starts facts = (
  λ e. let p = or_none (plan_refusal job starts) (facts_refusal facts (facts_of job starts) 0) (rw check_rows_lem at e) in (p.0, passes_equal facts (facts_of job starts) 0 p.1),
  λ h. rw h.1 (ap (λ r. r.number) (check_rows_lem job starts _ ∙ sym (or_passed (plan_refusal job starts) _ h.0) ∙ equal_passes (facts_of job starts) 0)),
)

module _ (room : ℕ) (job starts : List ℕ) {l c : ℕ} (accepted : fill_answer room job starts ≡ Accepted l c) where
  -- no row fits, and the length is that of the list of facts
  parts : ((fill_refusal room job starts).number ≡ 0) × (l ≡ length (facts_of job starts))
  unfolding fill_answer
  parts = cases (eqb (fill_refusal room job starts).number 0) refl accepted
    where
      cases : (t : Bool) → eqb (fill_refusal room job starts).number 0 ≡ t
          → cond t (Accepted (length (facts_of job starts)) 0) (Refused (fill_refusal room job starts).number (fill_refusal room job starts).position 0) ≡ Accepted l c
          → ((fill_refusal room job starts).number ≡ 0) × (l ≡ length (facts_of job starts))
      cases true t e = (eqb-true _ 0 t, cc)
      cases false t e = let z : ◌≡◌ {A = ℕ} 0 1 = cc in absurd (omega arith)

  filled_length : l ≡ length (facts_of job starts)
  filled_length = parts.1

  plan_passes : (plan_refusal job starts).number ≡ 0
  plan_passes = (room_plan room job starts (or_none (buffer_refusal room) _ (rw fill_rows_lem at parts.0)).1).0

  -- the first l words of the buffer are that list
  filled_words : (buffer : List ℕ) → take l (written (fill_answer room job starts) (facts_of job starts) buffer) ≡ facts_of job starts
  filled_words buffer = rw (accepted, filled_length, take-length) (take_at (facts_of job starts) _ (length (facts_of job starts)) refl)

  facts_pass : check_answer job starts (facts_of job starts) ≡ Accepted 0 0
  unfolding check_answer
  facts_pass = ap (λ r. answer_of r 0 0) (check_rows_lem job starts _ ∙ sym (or_passed (plan_refusal job starts) _ plan_passes) ∙ equal_passes (facts_of job starts) 0)

pub filled_passes : FilledPasses
filled_passes room job starts buffer l c accepted =
    let words = filled_words room job starts accepted buffer in
    (words, rw words (facts_pass room job starts accepted))
