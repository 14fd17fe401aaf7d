-- `theory::fill_plan` meets its contract: a buffer that is too short is refused, or the answer is that of `filled`. Assumes nothing.
use mathlib.Core.Path.{sym, ap, ◌∙◌}
use Rattle.answers.specs.declared.Refusal.{Refusal}
use Rattle.answers.proofs.Rows.{ok-passed, err-refused, err-ruled}
use Rattle.theory.specs.Answers.{fill_answer}
use Rattle.theory.proofs.Laws.{answered_ruled, short_fill}
use Rattle.theory.proofs.fill_plan.Goals as goal
use Rattle.answers.specs.Code.Ruled.{answered}

pub filled-requires : goal.filled-requires
filled-requires c = (ok-passed _ tt (rw c.in-Ok.is at c.buffer_refusal.ensures)).0

pub returns-in-Err-clause-value : goal.returns-in-Err-clause-value
unfolding fill_answer
returns-in-Err-clause-value c =
    let h = err-refused _ tt (rw c.in-Err.is at c.buffer_refusal.ensures) in
    let is = sym (short_fill _ c.args.job.now c.args.starts.now h.0) in
    c.answered.ensures ∙ ap answered (err-ruled _ (h.1 ∙ is) (λ z. h.0 (ap (λ (r : Refusal). r.number) is ∙ z))) ∙ answered_ruled _ _
