-- `formulas::Formulas::fill_moment` meets its contract. The invariant: the entries of the formulas below `k` are written. Assumes nothing.
use Prim.Native.Nat.{◌<◌, ◌≤◌}
use Rattle.job.specs.Parts.{head_word, formula_word}
use Rattle.job.specs.Code.Parts.{formula_count}
use Rattle.job.proofs.ByPlace.{formula_place}
use Rattle.formulas.specs.Code.Table.{tabled}
use Rattle.formulas.proofs.Laws.{formula_found, form-most}
use Rattle.formulas.proofs.Columns.{filled_columns, fill_entry}
use native.Mathlib.Omega.{arith}
use Rattle.formulas.proofs.Formulas.fill_moment.Goals as goal

pub loop-k-preserved : goal.loop-k-preserved
loop-k-preserved c =
    let p = c.requires in
    let a = c.args in
    let f = a.self.now in
    let turn = c.loop-k in
    let soon : a.t < 64 = omega (arith, p.grounds.well.few_moments, p.moment) in
    let l : turn.k < formula_count f.job.now = omega (arith, p.grounds.counted, c.loop-k-test.true) in
    let given = rw (← formula_place p.grounds.indexed turn.k l) at c.form_value-value.ensures in
    let most : c.form_value-value.result ≤ 2
    = rw given (form-most f.and.now f.or.now (head_word f.job.now) (formula_word f.job.now turn.k) p.connectives _ _ a.t
    (λ f. p.grounds.valued.most a.t _ p.moment ((p.grounds.well.formula turn.k l).fluent f)) (λ x u. turn.invariant.small.most _)) in
    fill_entry soon turn.k (omega (arith, p.grounds.well.few_formulas)) turn.values c.form_value-value.result most turn.invariant
    (rw given (formula_found f.and.now f.or.now p.grounds.well (tabled f.history.now) turn.k a.t l turn.values (filled_columns turn.invariant (omega arith))))
