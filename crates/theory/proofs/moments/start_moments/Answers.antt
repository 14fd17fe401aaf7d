-- `theory::moments::start_moments` meets its contract. The invariant: the sets are those of the starts that have been taken. Assumes nothing.
use mathlib.Core.Path.{ap, ◌∙◌}
use native.Mathlib.Omega.{arith}
use Rattle.words.proofs.Back.{back_start, back_taken}
use Rattle.bitset.proofs.SetTable.{table_none, table_more}
use Rattle.theory.specs.Trajectory.{is_start_of}
use Rattle.theory.proofs.StartSets.{start_passes}
use Rattle.theory.proofs.moments.start_moments.Goals as goal

pub loop-s-init : goal.loop-s-init
loop-s-init c =
    let e = ap (λ r. r.iter.rest.now) c.into_iter-s-iterator.ensures.into_iter_gives ∙ ap (λ i. i.rest.now) c.rev-s-items.ensures.source ∙ c.iter.ensures.rest in
    record { walk = rw e (back_start _); sets = rw e (table_none is_start_of c.args.starts.now) }

pub bounds-moments-a-in-loop-s : goal.bounds-moments-a-in-loop-s
bounds-moments-a-in-loop-s c = omega (arith, c.loop-s.invariant.sets.size, c.start_action-a.ensures.1)

pub loop-s-preserved : goal.loop-s-preserved
loop-s-preserved c =
    let turn = c.loop-s.invariant in
    let taken = back_taken _ turn.walk c.in-Some.ensures.steps in
    let action = c.start_action-a.ensures in
    record {
      walk = taken.walk;
      sets =
          table_more is_start_of _ _ _ turn.sets taken.next taken.inside c.single-at.result c.union.result action.1
          (rw taken.word (start_passes _ c.single-at.result action.0 c.start_moment.ensures.0 c.single-at.ensures))
          c.union.ensures;
    }

pub returns : goal.returns
returns c = λ a t. (rw c.in-None.ensures.steps.0 at c.loop-s.invariant.sets).entry a t
