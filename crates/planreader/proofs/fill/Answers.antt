-- `planreader::fill` meets its contract: the answer of `theory::fill_plan`, which is in range, packed. Assumes nothing.
use mathlib.Core.Path.{sym, ap, subst, ◌∙◌}
use native.Mathlib.Omega.{arith}
use lib.ListN.{length}
use Rattle.theory.proofs.Range.{fill_range}
use Rattle.answers.specs.Packed.{packed}
use Rattle.answers.specs.Code.Packed.{InRange}
use Rattle.answers.proofs.Packed.{reads_back}
use Rattle.planreader.proofs.fill.Goals as goal

pub pack-requires : goal.pack-requires
pack-requires c = let a = c.args in subst InRange (sym c.fill_plan.ensures.value) (fill_range a.job.now a.starts.now (λ i. omega (arith, c.type_inv.starts i)) (length a.buffer.now))

pub returns-clause-fields : goal.returns-clause-fields
returns-clause-fields c = let a = c.args in reads_back (c.pack.ensures ∙ ap packed c.fill_plan.ensures.value) (fill_range a.job.now a.starts.now (λ i. omega (arith, c.type_inv.starts i)) (length a.buffer.now))
