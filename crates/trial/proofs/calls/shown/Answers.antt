-- `trial::calls::shown` meets its contract: the words are too few, or the trial that they say is shown. Assumes nothing.
use mathlib.Core.Path.{ap, ◌∙◌}
use Rattle.trial.proofs.CallRows.{short_shown, enough_shown}
use Rattle.trial.proofs.calls.shown.Goals as goal
use Rattle.answers.specs.Code.Ruled.{answered}

pub returns-then-words-lt-TRIAL_WORDS : goal.returns-then-words-lt-TRIAL_WORDS
returns-then-words-lt-TRIAL_WORDS c =
    short_shown c.args.job.now c.args.words.now c.args.buffer.now c.if-words-lt-TRIAL_WORDS.true (c.answered.ensures ∙ ap answered c.too_few.ensures)

pub taken-requires : goal.taken-requires
taken-requires c = c.if-words-lt-TRIAL_WORDS.false

pub returns : goal.returns
returns c =
    enough_shown c.args.job.now c.args.words.now c.args.buffer.now c.if-words-lt-TRIAL_WORDS.false c.taken.result c.taken.ensures c.show.ensures.value c.show.ensures.buffer_after
