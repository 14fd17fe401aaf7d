-- `job::job_refusal` meets its contract, by the place of `job_refusal` at which each `return` stands. Assumes nothing.
use mathlib.Core.Bool.{not}
use mathlib.Core.Path.{ap}
use borrow.Author.Tests.{leb-true}
use Rattle.words.proofs.Choices.{both_true}
use Rattle.answers.proofs.Rows.{handed_on}
use Rattle.job.proofs.Refusal.{by_length, by_words, by_end, few, limits_nodes}
use Rattle.job.proofs.job_refusal.Goals as goal

pub returns-then-not-n : goal.returns-then-not-n
returns-then-not-n c = rw (c.refuse.ensures, by_length _ (ap not c.if-not-n.true))

pub returns-in_err-state : goal.returns-in_err-state
returns-in_err-state c =
    let h = c.in_err-state.ensures in
    rw (by_words _ (ap not c.if-not-n.false) h.1) (handed_on _ _ c.from_residual.ensures.1 h.0 h.1)

pub end_refusal-requires : goal.end_refusal-requires
end_refusal-requires c =
    let h = c.in_ok-state.ensures in
    (leb-true _ _ (both_true _ _ c.if-not-n.false).0, few _ h.0 6 (limits_nodes _ h.0), h.1)

pub returns : goal.returns
returns c = rw (by_end _ (ap not c.if-not-n.false) c.in_ok-state.ensures.0) c.end_refusal.ensures
