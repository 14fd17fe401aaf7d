-- `history::states::Actions::apply_starts` meets its contract. The invariant: once the starts that are left are applied too, all are. Assumes nothing.
use mathlib.Core.Path.{◌∙◌}
use Rattle.history.proofs.Stores.{overlaid_none, overlaid_before}
use Rattle.history.proofs.Moments.{walkable_last, walkable_before}
use Rattle.history.proofs.states.Actions.apply_starts.Goals as goal

pub apply_start-requires : goal.apply_start-requires
apply_start-requires c =
    let turn = c.loop-s.invariant in
    (walkable_last _ _ c.in-Some.ensures.steps turn.walk, rw turn.size c.requires.1)

pub loop-s-preserved : goal.loop-s-preserved
loop-s-preserved c =
    let turn = c.loop-s.invariant in
    record {
      walk = walkable_before _ _ c.in-Some.ensures.steps turn.walk;
      size = c.apply_start.ensures.size ∙ turn.size;
      left = λ new rest. turn.left new (overlaid_before c.in-Some.ensures.steps c.apply_start.ensures rest);
    }

pub returns : goal.returns
returns c = c.loop-s.invariant.left _ (overlaid_none _ c.in-None.ensures.steps.0)
