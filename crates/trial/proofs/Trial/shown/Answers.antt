-- `trial::Trial::shown` meets its contract: a row refuses and leaves the buffer, or the facts up to the present moment are written. Assumes
-- nothing.
use mathlib.Core.Path.{sym, ap, ◌∙◌}
use Prim.Native.Nat.{◌≤◌}
use native.Mathlib.Omega.{arith}
use lib.ListN.{length}
use lib.Seq.{length-sets}
use Rattle.answers.specs.declared.Refusal.{Refusal}
use Rattle.answers.proofs.Rows.{ok-passed, err-refused, ruled-passed}
use Rattle.facts.specs.Code.Written.{Filled}
use Rattle.facts.proofs.Lists.{upto_fit}
use Rattle.theory.proofs.Laws.{handed_same, room_enough, filled_front, refused_leaves}
use Rattle.moves.specs.Calls.{shown_facts}
use Rattle.applicable.proofs.NewStart.{present_formed}
use Rattle.trial.specs.Stepped.{trial_of}
use Rattle.trial.proofs.Moves.{facts_shown}
use Rattle.trial.proofs.CallRows.{shown_short, shown_job, shown_trial}
use Rattle.trial.proofs.Trial.shown.Goals as goal

pub returns-in_err-buffer_refusal-clause-value : goal.returns-in_err-buffer_refusal-clause-value
returns-in_err-buffer_refusal-clause-value c =
    let h = err-refused _ tt c.in_err-buffer_refusal.ensures in
    handed_same _ _ c.from_residual.ensures.1 h.1 h.0 (shown_short _ c.args.job.now (trial_of c.args.self.now) h.0)

pub returns-in_err-buffer_refusal-clause-buffer_after : goal.returns-in_err-buffer_refusal-clause-buffer_after
returns-in_err-buffer_refusal-clause-buffer_after c = refused_leaves _ _ _ _ c.from_residual.ensures.1

pub returns-in_err-index-clause-value : goal.returns-in_err-index-clause-value
returns-in_err-index-clause-value c =
    let h = err-refused _ _ c.in_err-index.ensures in
    handed_same _ _ c.from_residual-in_err-index.ensures.1 h.1 h.0
    (shown_job _ c.args.job.now (trial_of c.args.self.now) (ok-passed _ tt c.in_ok-buffer_refusal.ensures).0 h.0)

pub returns-in_err-index-clause-buffer_after : goal.returns-in_err-index-clause-buffer_after
returns-in_err-index-clause-buffer_after c = refused_leaves _ _ _ _ c.from_residual-in_err-index.ensures.1

pub judged-requires : goal.judged-requires
judged-requires c = let h = ok-passed _ _ c.in_ok-index.ensures in record { good = (room_enough _ _ h.0).0; index = h.1 }

pub returns-in_err-plan-clause-value : goal.returns-in_err-plan-clause-value
returns-in_err-plan-clause-value c =
    let h = c.in_err-plan.ensures in
    handed_same _ _ c.from_residual-in_err-plan.ensures.1 h.0 h.1
    (shown_trial _ c.args.job.now (trial_of c.args.self.now) (ok-passed _ tt c.in_ok-buffer_refusal.ensures).0 (ok-passed _ _ c.in_ok-index.ensures).0)

pub returns-in_err-plan-clause-buffer_after : goal.returns-in_err-plan-clause-buffer_after
returns-in_err-plan-clause-buffer_after c = refused_leaves _ _ _ _ c.from_residual-in_err-plan.ensures.1

pub fill_upto-requires : goal.fill_upto-requires
fill_upto-requires c =
    let plan = c.in_ok-plan.ensures.1.0 in
    record { well = present_formed plan; moment = plan.present; room = (room_enough _ _ (ok-passed _ _ c.in_ok-index.ensures).0).1 }

pub shape_of-buffer : goal.shape_of-buffer
shape_of-buffer c =
    let plan = c.in_ok-plan.ensures.1 in
    ap length (c.fill_upto.ensures _ plan.0.passed.history).held ∙ simp length-sets

pub returns-clause-value : goal.returns-clause-value
returns-clause-value c =
    let a = c.args in
    let plan = c.in_ok-plan.ensures in
    let filled : Filled a.buffer.now (shown_facts a.job.now (trial_of a.self.now)) c.fill_upto.result c.fill_upto.new.buffer =
    rw (facts_shown a.job.now a.self.now plan.1.1) at (c.fill_upto.ensures _ plan.1.0.passed.history) in
    let is = shown_trial _ a.job.now (trial_of a.self.now) (ok-passed _ tt c.in_ok-buffer_refusal.ensures).0 (ok-passed _ _ c.in_ok-index.ensures).0 in
    rw filled.count (sym (ruled-passed _ _ (ap (λ (r : Refusal). r.number) (sym is) ∙ plan.0)))

pub returns-clause-buffer_after : goal.returns-clause-buffer_after
returns-clause-buffer_after c =
    let a = c.args in
    let T = trial_of a.self.now in
    let plan = c.in_ok-plan.ensures in
    let filled : Filled a.buffer.now (shown_facts a.job.now (trial_of a.self.now)) c.fill_upto.result c.fill_upto.new.buffer =
    rw (facts_shown a.job.now a.self.now plan.1.1) at (c.fill_upto.ensures _ plan.1.0.passed.history) in
    let formed = present_formed plan.1.0 in
    let room = (room_enough _ _ (ok-passed _ _ c.in_ok-index.ensures).0).1 in
    let few = upto_fit a.job.now T.starts formed T.moment (omega (arith, plan.1.0.present, formed.few_moments)) in
    let fit : length (shown_facts a.job.now T) ≤ length a.buffer.now = omega (arith, few, room) in
    (filled_front filled fit).1
