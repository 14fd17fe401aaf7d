-- `planreader::check` meets its contract: the answer of `theory::check_plan`, which is in range, packed. Assumes nothing.
use mathlib.Core.Path.{sym, ap, subst, ◌∙◌}
use native.Mathlib.Omega.{arith}
use Rattle.theory.proofs.Range.{check_range}
use Rattle.answers.specs.Packed.{packed}
use Rattle.answers.specs.Code.Packed.{InRange}
use Rattle.answers.proofs.Packed.{reads_back}
use Rattle.planreader.proofs.check.Goals as goal

pub pack-requires : goal.pack-requires
pack-requires c = let a = c.args in subst InRange (sym c.check_plan.ensures) (check_range a.job.now a.starts.now (λ i. omega (arith, c.type_inv.starts i)) a.facts.now)

pub returns-clause-fields : goal.returns-clause-fields
returns-clause-fields c = let a = c.args in reads_back (c.pack.ensures ∙ ap packed c.check_plan.ensures) (check_range a.job.now a.starts.now (λ i. omega (arith, c.type_inv.starts i)) a.facts.now)
