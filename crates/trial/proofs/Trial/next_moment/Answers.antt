-- `trial::Trial::next_moment` meets its contract: a row of the job or the trial refuses, or its own row, or the moment is one more. Assumes
-- nothing.
use mathlib.Core.Path.{refl, sym, ap, ◌∙◌}
use Prim.Native.Nat.{◌<◌, ◌≤◌}
use native.Mathlib.Omega.{arith}
use Rattle.answers.specs.declared.Refusal.{Refusal}
use Rattle.answers.proofs.Rows.{ok-passed, err-refused}
use Rattle.job.specs.Code.Index.{checked_of}
use Rattle.job.specs.Parts.{last_moment}
use Rattle.theory.proofs.Laws.{handed_by}
use Rattle.moves.specs.Trials.{On}
use Rattle.applicable.proofs.NewStart.{present_formed}
use Rattle.trial.specs.Stepped.{trial_of}
use Rattle.trial.proofs.Moves.{by_job, by_trial, by_own, own_late, own_on}
use Rattle.trial.proofs.Trial.next_moment.Goals as goal

pub returns-in_err-index : goal.returns-in_err-index
unfolding checked_of
returns-in_err-index c =
    let h = err-refused _ _ c.in_err-index.ensures in
    handed_by _ _ c.from_residual.ensures.1 h.1 h.0 (by_job c.args.job.now (trial_of c.args.self.now) On h.0)

pub judged-requires : goal.judged-requires
unfolding checked_of
judged-requires c = let h = ok-passed _ _ c.in_ok-index.ensures in record { good = h.0; index = h.1 }

pub returns-in_err-judged : goal.returns-in_err-judged
unfolding checked_of
returns-in_err-judged c =
    let good = (ok-passed _ _ c.in_ok-index.ensures).0 in
    let h = c.in_err-judged.ensures in
    handed_by _ _ c.from_residual-in_err-judged.ensures.1 h.0 h.1 (by_trial c.args.job.now (trial_of c.args.self.now) On good h.1)

pub bounds-job-0 : goal.bounds-job-0
bounds-job-0 c = (present_formed c.in_ok-judged.ensures.1.0).some

pub returns-then-last_of-self : goal.returns-then-last_of-self
unfolding checked_of
returns-then-last_of-self c =
    let t = c.args.self.now in
    let good = (ok-passed _ _ c.in_ok-index.ensures).0 in
    let late : last_moment c.args.job.now ≤ t.moment = omega (arith, c.last_of.ensures.0, c.if-last_of-self.true) in
    let is = own_late c.args.job.now t c.in_ok-judged.ensures.1.1 late ∙ by_own c.args.job.now (trial_of t) On good c.in_ok-judged.ensures.0 in
    rw (c.refuse.ensures, ← is) (refl, λ z. omega arith)

pub overflow_add-result : goal.overflow_add-result
overflow_add-result c = record { fits = omega (arith, c.in_ok-judged.ensures.1.1.soon) }

pub returns : goal.returns
unfolding checked_of
returns c =
    let t = c.args.self.now in
    let good = (ok-passed _ _ c.in_ok-index.ensures).0 in
    let plan = c.in_ok-judged.ensures in
    let early : t.moment < last_moment c.args.job.now = omega (arith, c.last_of.ensures.0, c.if-last_of-self.false) in
    let is = by_own c.args.job.now (trial_of t) On good plan.0 in (
      ap (λ (r : Refusal). r.number) (sym is) ∙ own_on c.args.job.now t plan.1.1 early,
      record { moment = refl; soon = omega (arith, early, (present_formed plan.1.0).few_moments); sized = plan.1.1 },
    )
