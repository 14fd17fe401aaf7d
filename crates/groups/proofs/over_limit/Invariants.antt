-- `groups::over_limit` meets its contract. The invariant: the row fits no word before `i`, and of these the ones in hand are carried.
-- Assumes nothing.
use Rattle.groups.proofs.GroupWalk.{Carrying}
use Rattle.groups.proofs.over_limit.Given as goal

abbrev pub invariant-loop-i : goal.invariant-loop-i
invariant-loop-i l = Carrying l.job l.starts l.held.words l.held.count l.t l.i
