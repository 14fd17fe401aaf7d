-- `finder::readied` meets its contract: a row of check refuses, or the plan passes and its arrays are made. Assumes nothing.
use mathlib.Core.Path.{sym, ap, ◌∙◌}
use Rattle.answers.specs.declared.Refusal.{Refusal}
use Rattle.answers.proofs.Rows.{ok-passed, err-refused, or_refused, or_passed}
use Rattle.job.specs.Code.Index.{checked_of}
use Rattle.theory.proofs.Laws.{handed_by, check_rows_lem, job_ruled, plan_in}
use Rattle.theory.proofs.Passing.{job_clear, plan_formed}
use Rattle.theory.specs.Answers.{plan_refusal}
use Rattle.theory.specs.Code.Judged.{Judged}
use Rattle.finder.proofs.readied.Goals as goal
use Rattle.finder.proofs.readied.Goals.{After-judge-judged}

pub judge-judged-requires : goal.judge-judged-requires
unfolding checked_of
judge-judged-requires c = job_ruled _ _ _ c.check_job.ensures (λ z. z)

-- the rows of the job and of the starts are the plan's
judged : (c : After-judge-judged) → let a = c.args in Judged (plan_refusal a.job.now a.starts.now) a.job.now a.starts.now c.judge-judged.result
unfolding checked_of
judged c = rw (plan_in _ c.args.starts.now _ c.check_job.ensures) at c.judge-judged.ensures

pub returns-in-Err : goal.returns-in-Err
returns-in-Err c =
    let a = c.args in
    let h = rw c.in-Err.is at (judged (goal.at.returns-in-Err c).After-judge-judged) in
    let is = or_refused _ _ h.1 ∙ sym (check_rows_lem a.job.now a.starts.now a.facts.now) in
    (h.0 ∙ is, λ z. h.1 (ap (λ (r : Refusal). r.number) is ∙ z))

pub compare_facts-requires : goal.compare_facts-requires
compare_facts-requires c = plan_formed _ _ (rw c.in-Ok.is at (judged (goal.at.compare_facts-requires c).After-judge-judged)).0

pub returns-in_err-compare_facts-in-Ok : goal.returns-in_err-compare_facts-in-Ok
returns-in_err-compare_facts-in-Ok c =
    let a = c.args in
    let plan = rw c.in-Ok.is at (judged (goal.at.returns-in_err-compare_facts-in-Ok c).After-judge-judged) in
    let h = err-refused _ tt (c.in_err-compare_facts-in-Ok.ensures _ plan.1.history) in
    handed_by _ _ c.from_residual.ensures.1 h.1 h.0
    (or_passed _ _ plan.0 ∙ sym (check_rows_lem a.job.now a.starts.now a.facts.now))

pub arrays_of-requires : goal.arrays_of-requires
arrays_of-requires c = (rw c.in-Ok.is at (judged (goal.at.arrays_of-requires c).After-judge-judged)).1

pub returns-in_ok-compare_facts-in-Ok : goal.returns-in_ok-compare_facts-in-Ok
returns-in_ok-compare_facts-in-Ok c =
    let a = c.args in
    let plan = rw c.in-Ok.is at (judged (goal.at.returns-in_ok-compare_facts-in-Ok c).After-judge-judged) in
    let same = ok-passed _ tt (c.in_ok-compare_facts-in-Ok.ensures _ plan.1.history) in
    let is = or_passed _ _ plan.0 ∙ sym (check_rows_lem a.job.now a.starts.now a.facts.now) in (
      ap (λ (r : Refusal). r.number) (sym is) ∙ same.0,
      λ size room. record { clear = job_clear _ _ plan.1.clear; represented = c.arrays_of.ensures; room = room },
    )
