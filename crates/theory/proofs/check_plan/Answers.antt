-- `theory::check_plan` meets its contract: the answer of what `check` gives. Assumes nothing.
use mathlib.Core.Path.{ap, ◌∙◌}
use Rattle.theory.specs.Answers.{check_answer}
use Rattle.theory.proofs.Laws.{answered_ruled}
use Rattle.theory.proofs.check_plan.Goals as goal
use Rattle.answers.specs.Code.Ruled.{answered}

pub returns : goal.returns
unfolding check_answer
returns c = c.answered.ensures ∙ ap answered c.check.ensures ∙ answered_ruled _ _
