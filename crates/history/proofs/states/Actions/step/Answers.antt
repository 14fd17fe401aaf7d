-- `history::states::Actions::step` meets its contract: a pass over the starts in hand, the held list of the next moment, and a pass over those of
-- it that do not begin then. What the passes ask is so by the walk of the plan that `Steppable` names. Assumes nothing.
use Rattle.history.proofs.Carried.{each_lasts, carried_next}
use Rattle.history.proofs.Steps.{step_room, step_walk, step_next, step_hiding}
use Rattle.history.proofs.states.Actions.step.Goals as goal

pub apply_starts-requires : goal.apply_starts-requires
apply_starts-requires c = (rw c.starts.ensures (step_walk c.requires), c.requires.carried.state.room)

pub hold_next-kept-requires : goal.hold_next-kept-requires
hold_next-kept-requires c = (c.requires.walk.tables.durations.small, c.requires.soon, step_room c.requires)

pub apply_starts-requires-2 : goal.apply_starts-requires-2
apply_starts-requires-2 c =
    let next = c.hold_next-kept.ensures in
    (step_hiding c.requires next.list _ next.kept, rw c.apply_starts.ensures.size c.requires.carried.state.room)

pub returns : goal.returns
returns c =
    let p = c.requires in
    let next = c.hold_next-kept.ensures in
    λ S named ascends begin old.
    carried_next c.args.t begin (each_lasts p.walk.well named) ascends (step_next p next.list S named ascends begin old.list) _ next.kept old
    (rw c.starts.ensures at c.apply_starts.ensures) c.apply_starts-2.ensures
