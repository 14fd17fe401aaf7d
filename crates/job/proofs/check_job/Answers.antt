-- `job::check_job` meets its contract. Assumes nothing.
use mathlib.Core.Path.{sym}
use native.Mathlib.Omega.{arith}
use Rattle.answers.proofs.Rows.{ok-passed, err-refused, handed_on, ruled-passed}
use Rattle.job.specs.Code.Index.{checked_of}
use Rattle.job.proofs.Refusal.{clear, few, limits_actions, limits_formulas, limits_nodes}
use Rattle.job.proofs.check_job.Goals as goal

pub returns-in_err-job_refusal : goal.returns-in_err-job_refusal
unfolding checked_of
returns-in_err-job_refusal c =
    let h = err-refused _ tt c.in_err-job_refusal.ensures in
    handed_on _ _ c.from_residual.ensures.1 h.1 h.0

pub index_words-requires : goal.index_words-requires
index_words-requires c =
    let none = (clear _ (ok-passed _ tt c.in_ok-job_refusal.ensures).0).words in
    record {
      inside = omega arith;
      actions = few _ none 3 (limits_actions _ none);
      formulas = few _ none 5 (limits_formulas _ none);
      nodes = few _ none 6 (limits_nodes _ none);
    }

pub returns : goal.returns
unfolding checked_of
returns c = rw c.index_words.ensures (sym (ruled-passed _ _ (ok-passed _ tt c.in_ok-job_refusal.ensures).0))
