-- `groups::over_limit` meets its contract. The invariant: the row fits no word before `i`, and of these the ones in hand are carried.
-- Assumes nothing.
use mathlib.Core.Path.{◌≡◌, sym, ◌∙◌}
use Prim.Native.Nat.{suc}
use native.Mathlib.Omega.{arith}
use lib.ListN.{length, get_or, take}
use Rattle.starts.specs.Rows.{group_exceeded}
use Rattle.starts.proofs.Rows.{clear_row, tried_found, tried_end}
use Rattle.groups.proofs.GroupTable.{empty_clear}
use Rattle.groups.proofs.GroupWalk.{carrying_none, unfinished-yet, full_at, carrying_more}
use Rattle.groups.proofs.over_limit.Goals as goal

-- no group has an action
pub returns-then-all_empty : goal.returns-then-all_empty
unfolding group_exceeded
returns-then-all_empty c =
    let none = sym c.all_empty.ensures ∙ c.if-all_empty.true in
    let args = c.args in
    let job = args.job.now in
    let starts = args.starts.now in
    rw (clear_row 16 (group_exceeded job starts) (length starts) (λ i l. empty_clear c.requires.table none (take (suc i) starts) (get_or starts i 0)))

pub loop-i-init : goal.loop-i-init
loop-i-init c = rw c.none-held.ensures (carrying_none c.requires _)

pub keep_from-requires : goal.keep_from-requires
keep_from-requires c =
    let given = c.requires in
    let old = c.loop-i.invariant in
    let inside = c.loop-i-test.true in
    (rw (← c.start_moment-u.ensures.0) at (old.coming _ (omega arith) inside), given.timed.lasts.small, unfinished-yet given old inside)

pub returns-then-some_full : goal.returns-then-some_full
returns-then-some_full c =
    let filtered = rw c.start_moment-u.ensures.0 at c.keep_from.ensures in
    let value : let args = c.args in group_exceeded args.job.now args.starts.now c.loop-i.i ≡ c.some_full.result =
    full_at c.requires c.loop-i.invariant c.loop-i-test.true filtered c.start_action.ensures.0 (rw c.starts.ensures at c.some_full.ensures) in
    rw c.refuse.ensures (tried_found c.loop-i.invariant.tried (omega arith) c.loop-i-test.true (value ∙ c.if-some_full.true))

pub push-requires : goal.push-requires
push-requires c = omega (arith, c.keep_from.ensures.few, c.loop-i.invariant.few, c.requires.few, c.loop-i-test.true)

pub loop-i-preserved : goal.loop-i-preserved
loop-i-preserved c =
    let filtered = rw c.start_moment-u.ensures.0 at c.keep_from.ensures in
    let value : let args = c.args in group_exceeded args.job.now args.starts.now c.loop-i.i ≡ c.some_full.result =
    full_at c.requires c.loop-i.invariant c.loop-i-test.true filtered c.start_action.ensures.0 (rw c.starts.ensures at c.some_full.ensures) in
    rw c.start_moment-u.ensures.0
    (carrying_more c.requires c.loop-i.invariant c.loop-i-test.true filtered c.push.ensures.0 c.push.ensures.1 (value ∙ c.if-some_full.false))

pub returns : goal.returns
returns c = tried_end c.loop-i.invariant.tried (omega arith)
