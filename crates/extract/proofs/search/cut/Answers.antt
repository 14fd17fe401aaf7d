-- `extract::search::cut` meets its contract. The loop's invariant: every cut is at one of the ends of x that are left. Assumes nothing.
use native.Mathlib.Nat.{le_refl}
use native.Mathlib.Omega.{arith}
use Rattle.extract.proofs.Searches.{left_found, left_turn, left_none}
use Rattle.extract.proofs.search.cut.Goals as goal

pub meeting-requires : goal.meeting-requires
meeting-requires c =
    let s = c.requires in
    let (late, quiet) = (c.quiet_upto-last.ensures.at _).0 (le_refl _) in
    record { node = s.within.right; finish = s.within.finish; upto = omega (arith, s.late, c.in-Some.ensures.steps.0.below); size = s.within.size }

pub returns-in-Some-meeting : goal.returns-in-Some-meeting
returns-in-Some-meeting c = left_found c.loop-end.invariant c.in-Some.ensures.steps.0 c.quiet_upto-last.ensures (rw c.in-Some-meeting.is at c.meeting.ensures)

pub loop-end-preserved : goal.loop-end-preserved
loop-end-preserved c =
    left_turn c.loop-end.invariant c.in-Some.ensures.steps.0 c.quiet_upto-last.ensures (rw c.in_default.is at c.meeting.ensures) c.in-Some.ensures.steps.1

pub unreachable-requires : goal.unreachable-requires
unreachable-requires c = left_none c.loop-end.invariant c.in-None.ensures.steps.0 c.requires.some.2
