-- Between functions: what is asked of a job's formulas, by the struct that lends them.
use Rattle.std.specs.Prelude.{List, ℕ, length}
use Rattle.formulas.specs.declared.Formulas.{Formulas}
use Rattle.formulas.specs.Code.Table.{Grounds, ColumnReady}

abbrev pub GroundsOf : Formulas → Type 0
GroundsOf f = Grounds f.job.now f.places.now (length f.places.now) f.history.now

abbrev pub FillableBy : Formulas → ℕ → List ℕ → Type 0
FillableBy f t values = ColumnReady f.and.now f.or.now f.job.now f.places.now (length f.places.now) f.history.now t values
