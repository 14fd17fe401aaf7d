-- `trial::calls::on_words` meets its contract: the words are too few, or the answer is that of `gone_on`. Assumes nothing.
use mathlib.Core.Path.{refl, ap, ◌∙◌}
use Rattle.answers.specs.declared.Refusal.{Refusal}
use Rattle.answers.proofs.Rows.{ok-passed, err-refused, err-ruled}
use Rattle.theory.proofs.Laws.{answered_ruled}
use Rattle.moves.specs.Trials.{On}
use Rattle.moves.specs.Calls.{move_answer}
use Rattle.trial.proofs.CallRows.{lent_refused, enough_words}
use Rattle.trial.proofs.calls.on_words.Goals as goal
use Rattle.answers.specs.Code.Ruled.{answered}

pub gone_on-requires : goal.gone_on-requires
gone_on-requires c = enough_words _ _ (ok-passed _ tt (rw c.in-Ok.is at c.enough.ensures)).0

pub returns-in-Err : goal.returns-in-Err
unfolding move_answer
returns-in-Err c =
    let h = err-refused _ tt (rw c.in-Err.is at c.enough.ensures) in
    let is = lent_refused c.args.job.now c.args.words.now On h.0 in (
      c.answered.ensures ∙ ap answered (err-ruled _ (h.1 ∙ is) (λ z. h.0 (ap (λ (r : Refusal). r.number) is ∙ z))) ∙ answered_ruled _ _,
      rw c.answered.ensures refl,
    )
