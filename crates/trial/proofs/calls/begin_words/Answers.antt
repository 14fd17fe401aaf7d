-- `trial::calls::begin_words` meets its contract: the answer of what `begun` gives. Assumes nothing.
use mathlib.Core.Path.{ap, ◌∙◌}
use Rattle.theory.proofs.Laws.{answered_ruled}
use Rattle.moves.specs.Calls.{begin_answer}
use Rattle.trial.proofs.calls.begin_words.Goals as goal
use Rattle.answers.specs.Code.Ruled.{answered}

pub returns : goal.returns
unfolding begin_answer
returns c = (c.answered.ensures ∙ ap answered c.begun.ensures.0 ∙ answered_ruled _ _, rw c.answered.ensures c.begun.ensures.1)
