-- The rows of the job and of the trial, one after the other, by the struct. Assumes nothing.
use mathlib.Core.Bool.{true, false}
use mathlib.Core.List.{List}
use mathlib.Core.Path.{◌≡◌, ap, sym, ◌∙◌}
use Prim.Native.Nat.{ℕ, ◌≤◌, ◌<◌}
use native.Mathlib.Omega.{arith}
use borrow.Author.Tests.{le-ltb, lt-ltb, eq-eqb, ne_eqb}
use lib.Dec.{ltb}
use lib.ListN.{length, take}
use Rattle.words.specs.Fields.{start_moment}
use Rattle.words.specs.Scan.{any}
use Rattle.words.proofs.Lists.{each_at, first_words-length, first_words-take}
use Rattle.answers.specs.declared.Refusal.{Refusal}
use Rattle.answers.specs.Rows.{refusal, refusal_at}
use Rattle.answers.proofs.Rows.{at-number}
use Rattle.job.specs.declared.Index.{Index}
use Rattle.job.specs.Code.Index.{index_of}
use Rattle.job.specs.Parts.{last_moment}
use Rattle.job.specs.Refusal.{job_refusal}
use Rattle.job.proofs.WellFormed.{well_formed}
use Rattle.theory.specs.Answers.{plan_refusal}
use Rattle.theory.specs.declared.Plan.{Plan}
use Rattle.theory.specs.Code.Judged.{PassedUpto, Judgeable}
use Rattle.moves.specs.Trials.{outside, trial_refusal}
use Rattle.moves.proofs.Passing.{InBounds, in_bounds}
use Rattle.applicable.specs.Code.Given.{Present}
use Rattle.trial.specs.declared.Trial.{Trial}
use Rattle.trial.specs.Stepped.{trial_of, Sized}

-- the struct's starts, of which there are as many as it says
pub starts_taken : (t : Trial) → length t.starts ≡ 4096 → t.length ≤ 4096 → (trial_of t).starts ≡ take t.length t.starts
starts_taken t size few = first_words-take t.length t.starts (omega arith)

module _ (job : List ℕ) (t : Trial) where
  -- the bounds: too many starts; a moment after the last; else some start after the moment
  pub too_many : 4096 < t.length → true ≡ outside job (trial_of t)
  too_many l = rw (first_words-length t.length t.starts, lt-ltb 4096 t.length l)

  module _ (few : t.length ≤ 4096) where
    pub too_far : last_moment job < t.moment → true ≡ outside job (trial_of t)
    too_far l = rw (first_words-length t.length t.starts, le-ltb 4096 t.length few, lt-ltb (last_moment job) t.moment l)

    pub else_late : length t.starts ≡ 4096 → t.moment ≤ last_moment job
        → any (λ s. ltb t.moment (start_moment s)) (take t.length t.starts) ≡ outside job (trial_of t)
    else_late size l =
        rw (
          first_words-length t.length t.starts,
          le-ltb 4096 t.length few,
          le-ltb (last_moment job) t.moment l,
          starts_taken t size few,
        )

  -- what a trial inside its bounds has
  pub inside : length t.starts ≡ 4096 → outside job (trial_of t) ≡ false → InBounds job (record { moment = t.moment; starts = take t.length t.starts })
  inside size e =
      let b = in_bounds job (trial_of t) e in
      let few : t.length ≤ 4096 = rw (first_words-length t.length t.starts) at b.few in
      let taken = starts_taken t size few in
      record { few = rw taken at b.few; present = b.present; past = rw taken at b.past }

  pub inside_few : length t.starts ≡ 4096 → outside job (trial_of t) ≡ false → t.length ≤ 4096
  inside_few size e = rw (first_words-length t.length t.starts) at (in_bounds job (trial_of t) e).few

  pub row-14 : outside job (trial_of t) ≡ true → refusal 14 0 ≡ trial_refusal job (trial_of t)
  unfolding trial_refusal
  row-14 e = rw e

  module _ (good : (job_refusal job).number ≡ 0) where
    module _ (size : length t.starts ≡ 4096) (within : outside job (trial_of t) ≡ false) where
      -- the number of the rows on the starts, at position 0
      pub start_rows_lem : refusal_at 0 (plan_refusal job (take t.length t.starts)).number ≡ trial_refusal job (trial_of t)
      unfolding trial_refusal plan_refusal
      start_rows_lem = rw (within, starts_taken t size (inside_few size within), eq-eqb (job_refusal job).number 0 good)

      pub starts_passed : (plan_refusal job (take t.length t.starts)).number ≡ 0 → (trial_refusal job (trial_of t)).number ≡ 0
      starts_passed z = ap (λ (r : Refusal). r.number) (sym start_rows_lem) ∙ at-number 0 (plan_refusal job (take t.length t.starts)).number ∙ z

      pub starts_refused : {e r : Refusal} → r ≡ refusal e.number 0 → e ≡ plan_refusal job (take t.length t.starts) → (e.number ≡ 0 → ⊥)
          → (r ≡ trial_refusal job (trial_of t)) × ((trial_refusal job (trial_of t)).number ≡ 0 → ⊥)
      starts_refused {e} {r} is q n =
          let same : refusal e.number 0 ≡ trial_refusal job (trial_of t) = rw (ne_eqb e.number 0 n) at (rw (← q) at start_rows_lem) in
          (is ∙ same, λ z. n (ap (λ (r : Refusal). r.number) same ∙ z))

      pub judged_present : {plan : Plan} → PassedUpto job (take t.length t.starts) t.moment plan → Present job (take t.length t.starts) t.moment plan
      judged_present p = record { passed = p; present = (inside size within).present; past = (inside size within).past }

      pub judgeable : {index : Index} → index ≡ index_of job → Judgeable job (take t.length t.starts) index t.moment
      judgeable e = record {
        good = good;
        index = e;
        soon = omega (arith, (inside size within).present, (well_formed job good).few_moments);
        past = λ i l m. each_at (inside size within).past i l;
      }

      pub judged_sized : Sized t
      judged_sized = record {
        size = size;
        few = inside_few size within;
        soon = omega (arith, (inside size within).present, (well_formed job good).few_moments);
      }
