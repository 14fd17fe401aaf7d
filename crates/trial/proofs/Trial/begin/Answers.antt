-- `trial::Trial::begin` meets its contract: the job's refusal or none, and a trial of no starts. Assumes nothing.
use mathlib.Core.Path.{sym, ◌∙◌}
use Rattle.answers.proofs.Rows.{ok-passed, err-refused}
use Rattle.job.specs.Code.Index.{checked_of}
use Rattle.trial.proofs.None.{no_job}
use Rattle.trial.proofs.Trial.begin.Goals as goal

pub returns-in-Ok : goal.returns-in-Ok
unfolding checked_of
returns-in-Ok c = record {
  refusal_value = (c.none.ensures ∙ sym (no_job _ (ok-passed _ _ c.in-Ok.ensures).0), c.new_trial-trial.ensures.0);
  storable = λ z. c.new_trial-trial.ensures.1;
}

pub returns-in-Err : goal.returns-in-Err
unfolding checked_of
returns-in-Err c = record {
  refusal_value = ((err-refused _ _ c.in-Err.ensures).1, c.new_trial-trial.ensures.0);
  storable = λ z. c.new_trial-trial.ensures.1;
}
