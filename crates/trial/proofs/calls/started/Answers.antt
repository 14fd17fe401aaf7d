-- `trial::calls::started` meets its contract: the move of the trial that the words say is handed back. Assumes nothing.
use mathlib.Core.Path.{ap, ◌∙◌}
use Prim.Native.Nat.{ℕ}
use Rattle.answers.specs.declared.Refusal.{Refusal}
use Rattle.theory.proofs.Laws.{answered_ruled}
use Rattle.moves.specs.Trials as trials
use Rattle.moves.specs.Trials.{Start}
use Rattle.moves.specs.Calls.{move_answer, handed_back}
use Rattle.trial.proofs.CallRows.{enough_clear, stepped_rows, stepped_trial}
use Rattle.trial.proofs.calls.started.Goals as goal
use Rattle.answers.specs.Code.Ruled.{answered, ruled}

pub taken-requires : goal.taken-requires
taken-requires c = c.requires

pub put_back-requires : goal.put_back-requires
put_back-requires c = (c.start.ensures.storable, c.requires)

pub returns : goal.returns
unfolding move_answer
returns c =
    let job = c.args.job.now in
    let words = c.args.words.now in
    let clear = enough_clear job words c.requires in
    let rows = c.put_back.ensures.0 ∙ ap (λ (r : Refusal). ruled {T = ℕ} r 0) (stepped_rows job words (Start c.args.action) c.start.ensures.stepped clear c.taken.ensures) in
    let put = c.put_back.ensures.1 ∙ ap (λ (T : trials.Trial). handed_back (answered c.put_back.result) T words) (stepped_trial job words (Start c.args.action) c.start.ensures.stepped clear c.taken.ensures) in
    (c.answered.ensures ∙ ap answered rows ∙ answered_ruled _ _, rw c.answered.ensures put)
