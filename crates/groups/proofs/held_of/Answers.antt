-- `groups::held_of` meets its contract. The invariant: `n` counts the words before the one of this turn. Assumes nothing.
use mathlib.Core.Path.{◌≡◌, ◌∙◌}
use native.Mathlib.Numerals.{add-one}
use native.Mathlib.Omega.{arith}
use lib.ListN.{length}
use lib.Seq.{take-length}
use Rattle.words.specs.Fields.{start_action}
use Rattle.words.proofs.Filter.{count_next}
use Rattle.bitset.specs.Code.Members.{has}
use Rattle.groups.proofs.held_of.Goals as goal
use Rattle.groups.proofs.held_of.Goals.{then-has, else-has}

pub loop-s-init : goal.loop-s-init
loop-s-init c = (omega arith, omega arith)

pub overflow_add-n : goal.overflow_add-n
overflow_add-n c = omega (arith, c.loop-s.invariant.0)

pub loop-s-preserved : goal.loop-s-preserved
loop-s-preserved c =
    let inside = c.loop-s-test.true in
    let members = c.args.members in
    let old = c.loop-s.invariant in
    let e = rw c.start_action.ensures.0 at c.has.ensures in
    let more = rw (← (add-one c.loop-s.s-index), ← e) at (count_next (λ s. has members (start_action s)) c.loop-s.s-index c.args.held.now inside) in
    elim c.if-has.branch [
      | then-has w ↦ (omega (arith, w.n-is, old.0), omega (arith, w.n-is, old.1, rw w.if-has.true at more))
      | else-has w ↦ (omega (arith, w.n-is, old.0), omega (arith, w.n-is, old.1, rw w.if-has.false at more))
    ]

pub returns : goal.returns
returns c =
    let e : c.loop-s.s-index ≡ length c.args.held.now = omega arith in
    c.loop-s.invariant.1 ∙ rw (e, take-length)
