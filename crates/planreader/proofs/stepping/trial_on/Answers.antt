-- `planreader::stepping::trial_on` meets its contract: the answer of `trial::calls::on_words`, which is in range, packed. Assumes nothing.
use mathlib.Core.Path.{sym, ap, subst, ◌∙◌}
use Rattle.moves.specs.Trials.{On}
use Rattle.trial.proofs.Range.{move_range}
use Rattle.answers.specs.Packed.{packed}
use Rattle.answers.specs.Code.Packed.{InRange}
use Rattle.answers.proofs.Packed.{reads_back}
use Rattle.planreader.proofs.stepping.trial_on.Goals as goal

pub pack-requires : goal.pack-requires
pack-requires c = let a = c.args in subst InRange (sym c.on_words.ensures.0) (move_range a.job.now a.trial.now On)

pub returns-clause-fields : goal.returns-clause-fields
returns-clause-fields c = let a = c.args in reads_back (c.pack.ensures ∙ ap packed c.on_words.ensures.0) (move_range a.job.now a.trial.now On)
