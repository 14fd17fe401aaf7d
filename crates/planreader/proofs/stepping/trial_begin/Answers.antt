-- `planreader::stepping::trial_begin` meets its contract: the answer of `trial::calls::begin_words`, which is in range, packed. Assumes nothing.
use mathlib.Core.Path.{sym, ap, subst, ◌∙◌}
use lib.ListN.{length}
use Rattle.trial.proofs.Range.{begin_range}
use Rattle.answers.specs.Packed.{packed}
use Rattle.answers.specs.Code.Packed.{InRange}
use Rattle.answers.proofs.Packed.{reads_back}
use Rattle.planreader.proofs.stepping.trial_begin.Goals as goal

pub pack-requires : goal.pack-requires
pack-requires c = let a = c.args in subst InRange (sym c.begin_words.ensures.0) (begin_range (length a.trial.now) a.job.now)

pub returns-clause-fields : goal.returns-clause-fields
returns-clause-fields c = let a = c.args in reads_back (c.pack.ensures ∙ ap packed c.begin_words.ensures.0) (begin_range (length a.trial.now) a.job.now)
