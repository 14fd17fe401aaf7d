-- `theory::filled` meets its contract: the answer of what `fill` gives. Assumes nothing.
use mathlib.Core.Path.{ap, ◌∙◌}
use Rattle.theory.specs.Answers.{fill_answer}
use Rattle.theory.proofs.Laws.{answered_ruled}
use Rattle.theory.proofs.filled.Goals as goal
use Rattle.answers.specs.Code.Ruled.{answered}

pub returns-clause-value : goal.returns-clause-value
unfolding fill_answer
returns-clause-value c = c.answered.ensures ∙ ap answered c.fill.ensures.value ∙ answered_ruled _ _
