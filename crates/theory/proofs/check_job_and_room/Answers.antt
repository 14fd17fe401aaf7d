-- `theory::check_job_and_room` meets its contract: a row of the job refuses, or row 12 after them, or neither. Assumes nothing.
use borrow.Author.Tests.{lt-ltb, le-ltb}
use Rattle.words.specs.Fields.{fact_room}
use Rattle.job.specs.Code.Index.{checked_of}
use Rattle.job.specs.Parts.{head_word}
use Rattle.job.specs.Refusal.{job_refusal}
use Rattle.job.proofs.WellFormed.{well_formed}
use Rattle.answers.proofs.Rows.{ok-passed, err-refused, or_refused, or_passed}
use Rattle.theory.specs.Answers.{fact_room_refusal}
use Rattle.theory.proofs.Laws.{handed_same}
use Rattle.theory.proofs.check_job_and_room.Goals as goal

pub returns-in_err-checked : goal.returns-in_err-checked
unfolding checked_of
returns-in_err-checked c =
    let h = err-refused _ _ c.in_err-checked.ensures in
    handed_same _ _ c.from_residual.ensures.1 h.1 h.0 (or_refused (job_refusal c.args.job.now) (fact_room_refusal c.args.room c.args.job.now) h.0)

pub bounds-job-0 : goal.bounds-job-0
unfolding checked_of
bounds-job-0 c = (well_formed _ (ok-passed _ _ c.in_ok-checked.ensures).0).some

pub returns-then-room-fact_room : goal.returns-then-room-fact_room
unfolding checked_of
returns-then-room-fact_room c =
    let z = (ok-passed _ _ c.in_ok-checked.ensures).0 in
    let short = lt-ltb c.args.room (fact_room (head_word c.args.job.now)) (rw c.fact_room.ensures at c.if-room-fact_room.true) in
    rw (← (or_passed (job_refusal c.args.job.now) (fact_room_refusal c.args.room c.args.job.now) z), short, c.refuse.ensures)

pub returns : goal.returns
unfolding checked_of
returns c =
    let h = ok-passed _ _ c.in_ok-checked.ensures in
    let enough = le-ltb c.args.room (fact_room (head_word c.args.job.now)) (rw c.fact_room.ensures at c.if-room-fact_room.false) in
    rw (← (or_passed (job_refusal c.args.job.now) (fact_room_refusal c.args.room c.args.job.now) h.0), enough, h.1)
