-- `theory::compare_facts` meets its contract. The invariant: row 11 is left to the facts from moment `t` on. Assumes nothing.
use mathlib.Core.List.{[]}
use mathlib.Core.Path.{◌≡◌, refl, sym}
use native.Mathlib.Omega.{arith}
use lib.ListN.{drop}
use lib.Seq.{length-take-le}
use Rattle.facts.specs.Facts.{facts_of}
use Rattle.theory.specs.Answers.{facts_refusal}
use Rattle.answers.proofs.Rows.{err-refused, ok-passed}
use Rattle.theory.proofs.Laws.{rest_none, rest_some, handed_same}
use Rattle.theory.proofs.Turns.{fits, compared, refused, goes_on, ended}
use Rattle.theory.proofs.compare_facts.Goals as goal
use Rattle.theory.proofs.compare_facts.Goals.{else-loop-t-test, then-loop-t-test+in_ok-compare_part+else-t-last}

pub loop-t-init : goal.loop-t-init
loop-t-init c = record { size = refl; inside = omega arith; left = refl }

pub bounds-job-0 : goal.bounds-job-0
bounds-job-0 c = c.requires.some

pub row_facts-n-requires : goal.row_facts-n-requires
row_facts-n-requires c =
    let well = c.requires in
    (well, omega (arith, c.loop-t-test.true, c.last_of-last.ensures.0), omega (arith, well.few_fluents, c.loop-t.invariant.size))

pub slice_bounds-row_facts-end : goal.slice_bounds-row_facts-end
slice_bounds-row_facts-end c = sym c.loop-t.invariant.size

pub slice_bounds-row-end : goal.slice_bounds-row-end
slice_bounds-row-end c = fits c.loop-t.invariant c.requires c.row_facts-n.ensures

pub slice_bounds-compare_part-end : goal.slice_bounds-compare_part-end
slice_bounds-compare_part-end c = sym (length-take-le _ _ (fits c.loop-t.invariant c.requires c.row_facts-n.ensures))

pub compare_part-requires : goal.compare_part-requires
compare_part-requires c = c.loop-t.invariant.inside

pub returns-in_err-compare_part : goal.returns-in_err-compare_part
returns-in_err-compare_part c starts h =
    let turn = c.loop-t.invariant in
    let differ = err-refused _ tt (compared turn c.requires c.row_facts-n.ensures c.in_err-compare_part.ensures) in
    handed_same _ _ c.from_residual.ensures.1 differ.1 differ.0
    (refused turn c.requires c.row_facts-n.ensures (omega (arith, c.loop-t-test.true)) c.last_of-last.ensures.0 h differ.0)

pub overflow_add-at : goal.overflow_add-at
overflow_add-at c =
    let turn = c.loop-t.invariant in
    let same = ok-passed _ tt (compared turn c.requires c.row_facts-n.ensures c.in_ok-compare_part.ensures) in
    let next = goes_on turn c.requires c.row_facts-n.ensures (omega (arith, c.loop-t-test.true)) same.0 in
    record { fits = omega (arith, next.inside) }

pub loop-t-preserved : goal.loop-t-preserved
loop-t-preserved c =
    let turn = c.loop-t.invariant in
    let same = ok-passed _ tt (compared turn c.requires c.row_facts-n.ensures c.in_ok-compare_part.ensures) in
    goes_on turn c.requires c.row_facts-n.ensures (omega (arith, c.loop-t-test.true)) same.0

pub returns-then-at-given : goal.returns-then-at-given
returns-then-at-given c starts h =
    -- past the last moment, by either way out of the loop
    let a = c.args in
    let turn = c.loop-t.invariant in
    let past : facts_refusal (drop c.loop-t-test.at a.given.now) [] c.loop-t-test.at ≡ facts_refusal a.given.now (facts_of a.job.now starts) 0 =
    elim c.loop-t-test.branch [
      | else-loop-t-test w ↦ rw w.at-is (ended turn (omega (arith, w)) c.last_of-last.ensures.0 h)
      | then-loop-t-test+in_ok-compare_part+else-t-last w ↦
          let same = ok-passed _ tt (compared turn c.requires w.row_facts-n.ensures w.in_ok-compare_part.ensures) in
          let next = goes_on turn c.requires w.row_facts-n.ensures (omega (arith, w.loop-t-test.true)) same.0 in
          rw w.at-is (ended next (omega (arith, w)) c.last_of-last.ensures.0 h)
    ] in
    rw (c.refuse.ensures, ← past, rest_some c.args.given.now c.loop-t-test.at c.if-at-given.true)

pub returns : goal.returns
returns c starts h =
    -- past the last moment, by either way out of the loop
    let a = c.args in
    let turn = c.loop-t.invariant in
    let past : facts_refusal (drop c.loop-t-test.at a.given.now) [] c.loop-t-test.at ≡ facts_refusal a.given.now (facts_of a.job.now starts) 0 =
    elim c.loop-t-test.branch [
      | else-loop-t-test w ↦ rw w.at-is (ended turn (omega (arith, w)) c.last_of-last.ensures.0 h)
      | then-loop-t-test+in_ok-compare_part+else-t-last w ↦
          let same = ok-passed _ tt (compared turn c.requires w.row_facts-n.ensures w.in_ok-compare_part.ensures) in
          let next = goes_on turn c.requires w.row_facts-n.ensures (omega (arith, w.loop-t-test.true)) same.0 in
          rw w.at-is (ended next (omega (arith, w)) c.last_of-last.ensures.0 h)
    ] in
    rw (← past, rest_none c.args.given.now c.loop-t-test.at c.if-at-given.false)
