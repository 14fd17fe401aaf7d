-- `theory::fill` meets its contract: a row refuses and leaves the buffer, or the facts are written. Assumes nothing.
use mathlib.Core.Path.{◌≡◌, sym, ◌∙◌, ap}
use native.Mathlib.Omega.{arith}
use lib.ListN.{length}
use lib.Seq.{length-sets}
use Rattle.answers.specs.declared.Refusal.{Refusal}
use Rattle.answers.proofs.Rows.{ruled-passed}
use Rattle.facts.specs.Facts.{facts_of}
use Rattle.facts.specs.Code.Written.{Filled}
use Rattle.theory.proofs.Laws.{handed_same, room_fill, room_plan, room_enough, job_ruled, rows_in, filled_front, refused_leaves}
use Rattle.theory.proofs.Passing.{plan_formed, few_facts}
use Rattle.answers.specs.Rows.{first_refusal}
use Rattle.job.specs.Parts.{last_moment}
use Rattle.starts.specs.Rows.{starts_refusal}
use Rattle.theory.specs.Code.Judged.{room_rows, PassedUpto}
use Rattle.theory.proofs.fill.Goals as goal
use Rattle.theory.proofs.fill.Goals.{In_ok-plan}

pub judge-requires : goal.judge-requires
judge-requires c = job_ruled _ _ _ c.check_job_and_room.ensures (λ z. (room_enough _ _ z).0)

pub returns-in_err-plan-clause-value : goal.returns-in_err-plan-clause-value
returns-in_err-plan-clause-value c =
    let h = rw (rows_in _ _ _ c.check_job_and_room.ensures (starts_refusal c.args.job.now c.args.starts.now)) at c.in_err-plan.ensures in
    handed_same _ _ c.from_residual.ensures.1 h.0 h.1
    (sym (room_fill _ c.args.job.now c.args.starts.now c.requires))

pub returns-in_err-plan-clause-buffer_after : goal.returns-in_err-plan-clause-buffer_after
returns-in_err-plan-clause-buffer_after c = refused_leaves _ _ _ _ c.from_residual.ensures.1

-- a plan that passes fill's rows: none of its own fits, and there is room
passed : (c : In_ok-plan) → let a = c.args in ((first_refusal (room_rows (length a.buffer.now) a.job.now) (starts_refusal a.job.now a.starts.now)).number ≡ 0)
    × PassedUpto a.job.now a.starts.now (last_moment a.job.now) c.in_ok-plan.plan
passed c = rw (rows_in _ _ _ c.check_job_and_room.ensures (starts_refusal c.args.job.now c.args.starts.now)) at c.in_ok-plan.ensures

pub fill_facts-requires : goal.fill_facts-requires
fill_facts-requires c =
    let plan = passed (goal.at.fill_facts-requires c).In_ok-plan in
    (plan_formed _ _ plan.1.clear, (room_plan _ _ _ plan.0).1)

pub returns-clause-value : goal.returns-clause-value
returns-clause-value c =
    let plan = passed (goal.at.returns-clause-value c).In_ok-plan in
    let filled : Filled c.args.buffer.now (facts_of c.args.job.now c.args.starts.now) c.fill_facts.result c.fill_facts.new.buffer = c.fill_facts.ensures _ plan.1.history in
    let is = room_fill _ c.args.job.now c.args.starts.now c.requires in
    rw filled.count (sym (ruled-passed _ _ (ap (λ (r : Refusal). r.number) is ∙ plan.0)))

pub returns-clause-buffer_after : goal.returns-clause-buffer_after
returns-clause-buffer_after c =
    let plan = passed (goal.at.returns-clause-buffer_after c).In_ok-plan in
    let filled : Filled c.args.buffer.now (facts_of c.args.job.now c.args.starts.now) c.fill_facts.result c.fill_facts.new.buffer = c.fill_facts.ensures _ plan.1.history in
    let room = (room_plan _ _ _ plan.0).1 in
    (filled_front filled (omega (arith, few_facts c.args.job.now c.args.starts.now plan.1.clear, room))).1

pub shape_of-buffer : goal.shape_of-buffer
shape_of-buffer c = ap length (c.fill_facts.ensures _ c.in_ok-plan.ensures.1.history).held ∙ simp length-sets
