-- `theory::judge` meets its contract: the job passes, and the rows on starts say the rest. Assumes nothing.
use mathlib.Core.Path.{refl}
use native.Mathlib.Omega.{arith}
use Rattle.job.proofs.WellFormed.{well_formed}
use Rattle.answers.proofs.Rows.{or_refused}
use Rattle.starts.specs.Rows.{starts_refusal}
use Rattle.theory.proofs.Laws.{handed_by, passed_plan}
use Rattle.theory.proofs.judge.Goals as goal

pub returns-in_err-index : goal.returns-in_err-index
returns-in_err-index c =
    let refused = rw c.in_err-index.was at c.requires in
    rw c.in_err-index.was (handed_by _ _ c.from_residual.ensures.1 refl refused (or_refused c.in_err-index.field-0.0 (starts_refusal c.args.job.now c.args.starts.now) refused))

pub bounds-job-0 : goal.bounds-job-0
bounds-job-0 c = let h = rw c.in_ok-index.was at c.requires in (well_formed _ h.good).some

pub judge_starts-requires : goal.judge_starts-requires
judge_starts-requires c =
    let last = c.last_of.ensures.0 in
    let h = rw c.in_ok-index.was at c.requires in
    record {
      good = h.good;
      index = h.index;
      soon = omega (arith, last, (well_formed _ h.good).few_moments);
      past = λ i l m. omega (arith, last);
    }

pub returns : goal.returns
returns c =
    let a = c.args in
    let h = rw c.in_ok-index.was at c.requires in
    let judged = rw c.last_of.ensures.0 at c.judge_starts.ensures in
    rw (c.in_ok-index.was, passed_plan a.job.now a.starts.now h.good) judged
