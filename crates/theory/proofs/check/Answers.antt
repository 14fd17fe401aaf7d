-- `theory::check` meets its contract: the row that refuses, or none. Assumes nothing.
use mathlib.Core.Path.{sym}
use Rattle.answers.proofs.Rows.{err-ruled, ruled-passed}
use Rattle.theory.proofs.check.Goals as goal

pub returns-in-Err : goal.returns-in-Err
returns-in-Err c = let h = rw c.in-Err.is at c.judge_facts.ensures in err-ruled _ h.0 h.1

pub returns-in-Ok : goal.returns-in-Ok
returns-in-Ok c = sym (ruled-passed _ _ (rw c.in-Ok.is at c.judge_facts.ensures).0)
