-- `trial::Trial::show` meets its contract: the answer of what `shown` gives. Assumes nothing.
use mathlib.Core.Path.{ap, ◌∙◌}
use Rattle.theory.proofs.Laws.{answered_ruled}
use Rattle.trial.specs.Stepped.{show_answer_of}
use Rattle.trial.proofs.Trial.show.Goals as goal
use Rattle.answers.specs.Code.Ruled.{answered}

pub returns-clause-value : goal.returns-clause-value
unfolding show_answer_of
returns-clause-value c = c.answered.ensures ∙ ap answered c.shown.ensures.value ∙ answered_ruled _ _
