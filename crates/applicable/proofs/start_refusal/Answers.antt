-- `applicable::start_refusal` meets its contract: row 6 or 7 fits, or the rows by the other starts and row 10 decide. Assumes nothing.
use mathlib.Core.Path.{◌≡◌, sym, ◌∙◌}
use Prim.Native.Nat.{◌^◌, ◌+◌, ◌<◌, ◌≤◌}
use native.Mathlib.Omega.{arith}
use borrow.Author.Tests.{le-leb, lt-leb, lt-ltb, le-ltb}
use lib.ListN.{get_or}
use Rattle.std.proofs.lemmas.Result.{err_from_is_err_and}
use Rattle.words.specs.Lists.{Each}
use Rattle.words.proofs.Lists.{each_of}
use Rattle.job.specs.Parts.{actions, last_moment, duration}
use Rattle.applicable.proofs.NewStart.{present_formed, present_few, present_tabled, present_ruled, present_unmet, tested_err, tested_ok, row-6, row-7, row_held, row-10, no_row}
use Rattle.applicable.proofs.start_refusal.Goals as goal

pub bounds-job-0 : goal.bounds-job-0
bounds-job-0 c = (present_formed c.requires).some

pub returns-then-actions_of-a : goal.returns-then-actions_of-a
returns-then-actions_of-a c =
    rw c.refuse.ensures (tested_err c.requires _ (row-6 _ _ _ _ (le-leb _ _ (rw c.actions_of.ensures.0 at c.if-actions_of-a.true))) (λ z. omega arith))

pub bounds-plan-a : goal.bounds-plan-a
bounds-plan-a c =
    let below : c.args.a < actions c.args.job.now = rw c.actions_of.ensures.0 at c.if-actions_of-a.false in
    omega (arith, below, (present_formed c.requires).few_actions)

pub overflow_add-u : goal.overflow_add-u
overflow_add-u c =
    let given = c.requires in
    record { fits = omega (arith, given.present, (present_formed given).few_moments, given.passed.durations.small c.args.a) }

pub returns-then-last_of-u : goal.returns-then-last_of-u
returns-then-last_of-u c =
    let below : c.args.a < actions c.args.job.now = rw c.actions_of.ensures.0 at c.if-actions_of-a.false in
    let lasts : let args = c.args in get_or args.plan.now.durations args.a 0 ≡ duration args.job.now args.a = c.requires.passed.durations.entry _ below in
    let a = c.args in
    let late : last_moment a.job.now < a.u + duration a.job.now a.a = omega (arith, lasts, c.last_of.ensures.0, c.if-last_of-u.true) in
    rw c.refuse-then-last_of-u.ensures (tested_err c.requires _ (row-7 _ _ _ _ (lt-leb _ _ below) (lt-ltb _ _ late)) (λ z. omega arith))

pub held_refusal-requires : goal.held_refusal-requires
held_refusal-requires c =
    let small : Each (λ s. s < 2 ^ 32) c.args.starts.now = each_of c.args.starts.now (λ i l. omega (arith, c.type_inv.starts i)) in
    let below : c.args.a < actions c.args.job.now = rw c.actions_of.ensures.0 at c.if-actions_of-a.false in
    let lent = c.tables-tables.ensures in
    rw (lent.job, lent.durations, lent.effects) (record { present = c.requires; tabled = present_tabled c.requires; action = below; few = present_few c.requires small })

pub returns-in_err-held_refusal : goal.returns-in_err-held_refusal
returns-in_err-held_refusal c =
    let below : c.args.a < actions c.args.job.now = rw c.actions_of.ensures.0 at c.if-actions_of-a.false in
    let lasts : let args = c.args in get_or args.plan.now.durations args.a 0 ≡ duration args.job.now args.a = c.requires.passed.durations.entry _ below in
    let a = c.args in
    let inside : a.u + duration a.job.now a.a ≤ last_moment a.job.now = omega (arith, lasts, c.last_of.ensures.0, c.if-last_of-u.false) in
    let p = err_from_is_err_and c.from_residual.result c.from_residual.ensures.1 in
    let held = row_held _ _ _ _ (lt-leb _ _ below) (le-ltb _ _ inside) (rw c.tables-tables.ensures.job at c.in_err-held_refusal.ensures) in
    rw (p.1, p.2) (tested_err c.requires _ held.0 held.1)

pub laws_of-requires : goal.laws_of-requires
laws_of-requires c =
    let below : c.args.a < actions c.args.job.now = rw c.actions_of.ensures.0 at c.if-actions_of-a.false in
    let lent = c.tables-tables.ensures in
    rw (lent.job, lent.places, lent.ends) (present_ruled c.requires, below)

pub has_unmet-requires : goal.has_unmet-requires
has_unmet-requires c =
    let g = c.requires in
    omega (arith, g.present, (present_formed g).few_moments)

pub returns-then-has_unmet : goal.returns-then-has_unmet
returns-then-has_unmet c =
    let below : c.args.a < actions c.args.job.now = rw c.actions_of.ensures.0 at c.if-actions_of-a.false in
    let lasts : let args = c.args in get_or args.plan.now.durations args.a 0 ≡ duration args.job.now args.a = c.requires.passed.durations.entry _ below in
    let a = c.args in
    let inside : a.u + duration a.job.now a.a ≤ last_moment a.job.now = omega (arith, lasts, c.last_of.ensures.0, c.if-last_of-u.false) in
    let unmet = present_unmet c.requires below (rw c.tables-tables.ensures.job at c.laws_of.ensures) c.has_unmet.ensures in
    rw c.refuse-then-has_unmet.ensures
    (tested_err c.requires _ (row-10 _ _ _ _ (lt-leb _ _ below) (le-ltb _ _ inside) (rw c.tables-tables.ensures.job at c.in_ok-held_refusal.ensures) (sym unmet ∙ c.if-has_unmet.true)) (λ z. omega arith))

pub returns : goal.returns
returns c =
    let small : Each (λ s. s < 2 ^ 32) c.args.starts.now = each_of c.args.starts.now (λ i l. omega (arith, c.type_inv.starts i)) in
    let below : c.args.a < actions c.args.job.now = rw c.actions_of.ensures.0 at c.if-actions_of-a.false in
    let lasts : let args = c.args in get_or args.plan.now.durations args.a 0 ≡ duration args.job.now args.a = c.requires.passed.durations.entry _ below in
    let a = c.args in
    let inside : a.u + duration a.job.now a.a ≤ last_moment a.job.now = omega (arith, lasts, c.last_of.ensures.0, c.if-last_of-u.false) in
    let unmet = present_unmet c.requires below (rw c.tables-tables.ensures.job at c.laws_of.ensures) c.has_unmet.ensures in
    tested_ok c.requires _ small (no_row _ _ _ _ (lt-leb _ _ below) (le-ltb _ _ inside) (rw c.tables-tables.ensures.job at c.in_ok-held_refusal.ensures) (sym unmet ∙ c.if-has_unmet.false))
