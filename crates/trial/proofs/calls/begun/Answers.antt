-- `trial::calls::begun` meets its contract: the words are too few, or a trial is begun. Assumes nothing.
use mathlib.Core.Path.{refl, ap, ◌∙◌}
use Prim.Native.Nat.{ℕ}
use Rattle.moves.specs.Trials as trials
use Rattle.moves.specs.Calls.{handed_back}
use Rattle.answers.specs.declared.Refusal.{Refusal}
use Rattle.answers.proofs.Rows.{ok-passed, err-refused, or_refused}
use Rattle.job.specs.Code.Index.{checked_of}
use Rattle.job.specs.Refusal.{job_refusal}
use Rattle.theory.proofs.Laws.{handed_same}
use Rattle.trial.proofs.CallRows.{short_begin, enough_begin, refused_keeps_words}
use Rattle.trial.proofs.calls.begun.Goals as goal
use Rattle.answers.specs.Code.Ruled.{answered, ruled}

pub returns-in_err-check_job : goal.returns-in_err-check_job
unfolding checked_of
returns-in_err-check_job c =
    let h = err-refused _ _ c.in_err-check_job.ensures in
    (handed_same _ _ c.from_residual.ensures.1 h.1 h.0 (or_refused (job_refusal c.args.job.now) _ h.0), refused_keeps_words _ _ _ _ c.from_residual.ensures.1)

pub returns-then-words-lt-TRIAL_WORDS : goal.returns-then-words-lt-TRIAL_WORDS
unfolding checked_of
returns-then-words-lt-TRIAL_WORDS c =
    let is = short_begin c.args.job.now c.args.words.now c.if-words-lt-TRIAL_WORDS.true (ok-passed _ _ c.in_ok-check_job.ensures).0 in
    (rw (c.refuse.ensures, ← is), refl)

pub returns : goal.returns
returns c = (
  c.put_back.ensures.0 ∙ ap (λ (r : Refusal). ruled {T = ℕ} r 0) c.begin.ensures.refusal_value.0 ∙ enough_begin c.args.job.now c.args.words.now c.if-words-lt-TRIAL_WORDS.false,
  c.put_back.ensures.1 ∙ ap (λ (T : trials.Trial). handed_back (answered c.put_back.result) T c.args.words.now) c.begin.ensures.refusal_value.1,
)
