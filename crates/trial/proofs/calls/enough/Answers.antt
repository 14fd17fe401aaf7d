-- `trial::calls::enough` meets its contract: the words are too few, or they are enough for a trial. Assumes nothing.
use mathlib.Core.Path.{sym}
use Rattle.answers.proofs.Rows.{ok-passed, err-refused, ruled-passed}
use Rattle.job.specs.Code.Index.{checked_of}
use Rattle.theory.proofs.Laws.{handed_same}
use Rattle.trial.proofs.CallRows.{short_job, short_words, enough_clear}
use Rattle.trial.proofs.calls.enough.Goals as goal

pub returns-in_err-check_job : goal.returns-in_err-check_job
unfolding checked_of
returns-in_err-check_job c =
    let h = err-refused _ _ c.in_err-check_job.ensures in
    handed_same _ _ c.from_residual.ensures.1 h.1 h.0 (short_job _ _ c.if-words-lt-TRIAL_WORDS.true h.0)

pub returns-then-words-lt-TRIAL_WORDS : goal.returns-then-words-lt-TRIAL_WORDS
unfolding checked_of
returns-then-words-lt-TRIAL_WORDS c =
    let is = short_words c.args.job.now c.args.words.now c.if-words-lt-TRIAL_WORDS.true (ok-passed _ _ c.in_ok-check_job.ensures).0 in
    rw (c.refuse.ensures, ← is)

pub returns : goal.returns
returns c = sym (ruled-passed _ _ (enough_clear c.args.job.now c.args.words.now c.if-words-lt-TRIAL_WORDS.false))
