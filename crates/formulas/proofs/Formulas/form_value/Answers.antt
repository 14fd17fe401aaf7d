-- `formulas::Formulas::form_value` meets its contract. The form that led to each arm picks its case. Assumes nothing.
use borrow.Author.Tests.{ne_eqb}
use Rattle.formulas.specs.Values.{form_value}
use Rattle.formulas.proofs.Formulas.form_value.Goals as goal

pub returns-in-0 : goal.returns-in-0
unfolding form_value
returns-in-0 c = rw (← c.form_of-form.ensures.0, c.in-0.is)

pub returns-in-1 : goal.returns-in-1
unfolding form_value
returns-in-1 c =
    rw (← c.form_of-form.ensures.0, c.in-1.is, ← c.atom_fluent.ensures.0)

pub returns-in-2 : goal.returns-in-2
unfolding form_value
returns-in-2 c =
    rw (← c.form_of-form.ensures.0, c.in-2.is, ← c.formula_x-x.ensures.0)

pub returns-in-3 : goal.returns-in-3
unfolding form_value
returns-in-3 c = rw (← c.form_of-form.ensures.0, c.in-3.is, ← c.formula_x-x.ensures.0, ← c.formula_y-y.ensures.0) c.by_table.ensures

pub returns-in-4 : goal.returns-in-4
unfolding form_value
returns-in-4 c = rw (← c.form_of-form.ensures.0, c.in-4.is, ← c.formula_x-x.ensures.0, ← c.formula_y-y.ensures.0) c.by_table-in-4.ensures

pub returns-in_default : goal.returns-in_default
unfolding form_value
returns-in_default c =
    let (((((rest, not-0), not-1), not-2), not-3), not-4) = c.in_default.in_default-own.rest in
    rw (← c.form_of-form.ensures.0, ne_eqb _ 0 not-0, ne_eqb _ 1 not-1, ne_eqb _ 2 not-2, ne_eqb _ 3 not-3, ne_eqb _ 4 not-4, ← c.formula_x-x.ensures.0, ← c.formula_y-y.ensures.0)
    c.held_for.ensures
