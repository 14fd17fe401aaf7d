-- `trial::Trial::new_start` meets its contract: a row of the job or the trial refuses, or one of the new start, or there is room for it. Assumes
-- nothing.
use mathlib.Core.Path.{sym, ap, ◌∙◌}
use Prim.Native.Nat.{◌≤◌}
use native.Mathlib.Omega.{arith}
use lib.ListN.{length}
use lib.Seq.{length-take-le}
use Rattle.answers.specs.declared.Refusal.{Refusal}
use Rattle.answers.proofs.Rows.{ok-passed, err-refused}
use Rattle.job.specs.Code.Index.{checked_of}
use Rattle.theory.proofs.Laws.{handed_by}
use Rattle.moves.specs.Trials.{Start}
use Rattle.applicable.proofs.NewStart.{present_formed, present_order}
use Rattle.trial.specs.Stepped.{trial_of, Sized}
use Rattle.trial.proofs.Moves.{by_job, by_trial, by_own, own_start, named_start}
use Rattle.trial.proofs.Trial.new_start.Goals as goal

pub returns-in_err-index : goal.returns-in_err-index
unfolding checked_of
returns-in_err-index c =
    let h = err-refused _ _ c.in_err-index.ensures in
    handed_by _ _ c.from_residual.ensures.1 h.1 h.0 (by_job c.args.job.now (trial_of c.args.self.now) (Start c.args.action) h.0)

pub judged-requires : goal.judged-requires
unfolding checked_of
judged-requires c = let h = ok-passed _ _ c.in_ok-index.ensures in record { good = h.0; index = h.1 }

pub returns-in_err-plan : goal.returns-in_err-plan
unfolding checked_of
returns-in_err-plan c =
    let good = (ok-passed _ _ c.in_ok-index.ensures).0 in
    let h = c.in_err-plan.ensures in
    handed_by _ _ c.from_residual-in_err-plan.ensures.1 h.0 h.1 (by_trial c.args.job.now (trial_of c.args.self.now) (Start c.args.action) good h.1)

pub slice_bounds-start_refusal-end : goal.slice_bounds-start_refusal-end
slice_bounds-start_refusal-end c =
    let sized : Sized c.args.self.now = c.in_ok-plan.ensures.1.1 in
    let few : let t = c.args.self.now in t.length ≤ length t.starts = omega (arith, sized.few, sized.size) in
    sym (length-take-le _ _ few)

pub start_refusal-requires : goal.start_refusal-requires
start_refusal-requires c = c.in_ok-plan.ensures.1.0

pub returns-in_err-start_refusal : goal.returns-in_err-start_refusal
unfolding checked_of
returns-in_err-start_refusal c =
    let t = c.args.self.now in
    let good = (ok-passed _ _ c.in_ok-index.ensures).0 in
    let plan = c.in_ok-plan.ensures in
    let h = c.in_err-start_refusal.ensures in
    handed_by _ _ c.from_residual-in_err-start_refusal.ensures.1 h.0 h.1
    (own_start c.args.job.now t plan.1.1 c.args.action ∙ by_own c.args.job.now (trial_of t) (Start c.args.action) good plan.0)

pub start_word-requires : goal.start_word-requires
start_word-requires c =
    let plan = c.in_ok-plan.ensures.1 in
    (plan.1.soon, named_start c.args.job.now c.args.self.now plan.1 c.args.action (present_formed plan.0) c.in_ok-start_refusal.ensures.0)

pub returns : goal.returns
unfolding checked_of
returns c =
    let t = c.args.self.now in
    let good = (ok-passed _ _ c.in_ok-index.ensures).0 in
    let plan = c.in_ok-plan.ensures in
    let sized : Sized c.args.self.now = plan.1.1 in
    let few : let t = c.args.self.now in t.length ≤ length t.starts = omega (arith, sized.few, sized.size) in
    let tested = c.in_ok-start_refusal.ensures in
    let is = own_start c.args.job.now t sized c.args.action ∙ by_own c.args.job.now (trial_of t) (Start c.args.action) good plan.0 in (
      ap (λ (r : Refusal). r.number) (sym is) ∙ tested.0,
      (
        c.start_word.ensures,
        record { sized = sized; room = omega (arith, tested.1, length-take-le t.length t.starts few); order = present_order plan.1.0 },
      ),
    )
