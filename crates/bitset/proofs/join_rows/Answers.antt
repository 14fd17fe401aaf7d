-- Each turn moves the lowest member that is left over to what is joined. Assumes nothing.
use Rattle.bitset.proofs.In.{in_union}
use Rattle.bitset.proofs.Joins.{split_start, split_turn, split_end, joined_rows}
use Rattle.bitset.proofs.join_rows.Goals as goal

pub loop-m-init : goal.loop-m-init
loop-m-init c = rw (c.into_iter-m-iterator.ensures.into_iter_gives, c.members-m-items.ensures) split_start

pub loop-m-preserved : goal.loop-m-preserved
loop-m-preserved c = split_turn c.loop-m.invariant c.in-Some.ensures.steps.0 c.in-Some.ensures.steps.1 (in_union c.union-joined.ensures)

pub returns : goal.returns
returns c = joined_rows (split_end c.in-None.ensures.steps.0 c.loop-m.invariant)
