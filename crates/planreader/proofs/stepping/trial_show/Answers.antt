-- `planreader::stepping::trial_show` meets its contract: the answer of `trial::calls::show_words`, which is in range, packed. Assumes nothing.
use mathlib.Core.Path.{sym, ap, subst, ◌∙◌}
use lib.ListN.{length}
use Rattle.trial.proofs.Range.{show_range}
use Rattle.answers.specs.Packed.{packed}
use Rattle.answers.specs.Code.Packed.{InRange}
use Rattle.answers.proofs.Packed.{reads_back}
use Rattle.planreader.proofs.stepping.trial_show.Goals as goal

pub pack-requires : goal.pack-requires
pack-requires c = let a = c.args in subst InRange (sym c.show_words.ensures.0) (show_range (length a.buffer.now) a.job.now a.trial.now)

pub returns-clause-fields : goal.returns-clause-fields
returns-clause-fields c = let a = c.args in reads_back (c.pack.ensures ∙ ap packed c.show_words.ensures.0) (show_range (length a.buffer.now) a.job.now a.trial.now)
