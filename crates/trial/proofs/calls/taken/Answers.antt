-- `trial::calls::taken` meets its contract: two numbers, and the words after them copied. Assumes nothing.
use native.Mathlib.Omega.{arith}
use Rattle.trial.proofs.Handed.{said}
use Rattle.trial.proofs.calls.taken.Goals as goal

pub overflow_cast-moment : goal.overflow_cast-moment
overflow_cast-moment c = record { fits = omega (arith, c.type_inv.words 0) }

pub overflow_cast-length : goal.overflow_cast-length
overflow_cast-length c = record { fits = omega (arith, c.type_inv.words 1) }

pub returns : goal.returns
returns c = said c.args.words.now c.requires c.copy_words.ensures
