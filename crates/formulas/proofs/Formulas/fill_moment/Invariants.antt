-- `formulas::Formulas::fill_moment` meets its contract. The invariant: the entries of the formulas below `k` are written. Assumes nothing.
use Rattle.formulas.specs.Code.Table.{tabled}
use Rattle.formulas.proofs.Columns.{Filling}
use Rattle.formulas.proofs.Formulas.fill_moment.Given as goal

abbrev pub invariant-loop-k : goal.invariant-loop-k
invariant-loop-k l = Filling l.self.and.now l.self.or.now l.self.job.now (tabled l.self.history.now) l.t l.k l.values
