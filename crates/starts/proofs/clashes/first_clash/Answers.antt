-- `starts::clashes::first_clash` meets its contract. The invariant: the row fits no word before `i`, `latest` has the latest finishes of the
-- starts before `i`, and `table` tells of each two actions that have one. Assumes nothing.
use mathlib.Core.Path.{◌≡◌, sym, ◌∙◌}
use Prim.Native.Nat.{ℕ, ◌<◌, ◌^◌}
use lib.ListN.{length, get_or}
use Rattle.job.specs.Parts.{actions}
use Rattle.starts.specs.Rows.{clashes}
use Rattle.starts.proofs.Rows.{tried_start, tried_more, tried_found, tried_end}
use Rattle.starts.proofs.StartsFormed.{right_word}
use Rattle.starts.proofs.LatestFinish.{latest-start, latest-more, latest-clash}
use Rattle.starts.proofs.ClashTable.{clashes-start, clashes-more}
use native.Mathlib.Omega.{arith}
use Rattle.starts.proofs.clashes.first_clash.Goals as goal

pub loop-i-init : goal.loop-i-init
loop-i-init c = (tried_start, latest-start _ _, clashes-start _)

pub compare_action-requires : goal.compare_action-requires
compare_action-requires c =
    let inside : c.loop-i.i < length c.args.starts.now = c.loop-i-test.true in
    let action : c.start_action-a.result < actions c.args.tables.now.job.now = omega (arith, c.start_action-a.ensures.0, (right_word c.requires.0.words c.loop-i.i inside).action) in
    let pre = c.requires in
    record { formed = pre.0.formed; makes = pre.1; action = action; told = c.loop-i.invariant.2 }

pub clashes_after-requires : goal.clashes_after-requires
clashes_after-requires c =
    let inside : c.loop-i.i < length c.args.starts.now = c.loop-i-test.true in
    let action : c.start_action-a.result < actions c.args.tables.now.job.now = omega (arith, c.start_action-a.ensures.0, (right_word c.requires.0.words c.loop-i.i inside).action) in
    record { formed = c.requires.0.formed; action = action; told = c.compare_action.ensures.forth }

pub returns-then-clashes_after : goal.returns-then-clashes_after
returns-then-clashes_after c =
    let inside : c.loop-i.i < length c.args.starts.now = c.loop-i-test.true in
    let words : (j : ℕ) → get_or c.args.starts.now j 0 < 2 ^ 32 = λ j. omega (arith, c.type_inv.starts j) in
    let value : clashes c.args.tables.now.job.now c.args.starts.now c.loop-i.i ≡ c.clashes_after.result = latest-clash c.requires.0 words inside c.loop-i.invariant.1 c.start_action-a.ensures.0 c.start_moment.ensures.0
    ∙ sym c.clashes_after.ensures in
    rw c.refuse.ensures (tried_found c.loop-i.invariant.0 (omega arith) inside (value ∙ c.if-clashes_after.true))

pub finish_of-requires : goal.finish_of-requires
finish_of-requires c = c.requires.0.lasts.small _

pub offset_bounds-latest-a : goal.offset_bounds-latest-a
offset_bounds-latest-a c = omega arith

pub bounds-latest-a : goal.bounds-latest-a
bounds-latest-a c = omega (arith, c.loop-i.invariant.1.size)

pub loop-i-preserved : goal.loop-i-preserved
loop-i-preserved c =
    let words : (j : ℕ) → get_or c.args.starts.now j 0 < 2 ^ 32 = λ j. omega (arith, c.type_inv.starts j) in
    let inside : c.loop-i.i < length c.args.starts.now = c.loop-i-test.true in
    let action : c.start_action-a.result < actions c.args.tables.now.job.now = omega (arith, c.start_action-a.ensures.0, (right_word c.requires.0.words c.loop-i.i inside).action) in
    let value : clashes c.args.tables.now.job.now c.args.starts.now c.loop-i.i ≡ c.clashes_after.result = latest-clash c.requires.0 words inside c.loop-i.invariant.1 c.start_action-a.ensures.0 c.start_moment.ensures.0
    ∙ sym c.clashes_after.ensures in (
      tried_more c.loop-i.invariant.0 inside (value ∙ c.if-clashes_after.false),
      latest-more c.requires.0 words inside c.loop-i.invariant.1 c.start_action-a.ensures.0 c.finish_of.ensures,
      clashes-more action c.finish_of.result c.compare_action.ensures,
    )

pub returns : goal.returns
returns c = tried_end c.loop-i.invariant.0 (omega arith)
