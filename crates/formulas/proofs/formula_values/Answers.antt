-- `formulas::formula_values` meets its contract. The invariant: the columns before `t` are filled. Assumes nothing.
use Rattle.formulas.proofs.Columns.{columns_none, columns_all}
use Rattle.formulas.proofs.Laws.{table_same}
use native.Mathlib.Omega.{arith}
use Rattle.formulas.proofs.formula_values.Goals as goal

pub loop-t-init : goal.loop-t-init
loop-t-init c = columns_none

pub returns-2 : goal.returns-2
returns-2 c starts h =
    let f = c.args.formulas.now in
    table_same f.and.now f.or.now c.requires.1.well h
    (columns_all c.fill_moment.ensures (omega (arith, c.last_of-t-end.ensures.0)))
