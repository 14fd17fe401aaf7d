-- `formulas::formula_values` meets its contract. The invariant: the columns before `t` are filled. Assumes nothing.
use Rattle.formulas.specs.Code.Table.{tabled, ColumnsBefore}
use Rattle.formulas.proofs.formula_values.Given as goal

abbrev pub invariant-loop-t : goal.invariant-loop-t
invariant-loop-t l = ColumnsBefore l.formulas.and.now l.formulas.or.now l.formulas.job.now (tabled l.formulas.history.now) l.t l.values
