-- `shifts::shifts_of` meets its contract. The invariant: the sets are those of the words that have been taken. Assumes nothing.
use mathlib.Core.Path.{ap, sym, ◌∙◌}
use Rattle.words.proofs.Back.{back_start, back_taken}
use Rattle.shifts.proofs.ShiftSets.{shifts_none, shifts_other, shifts_more, shifts_all}
use Rattle.shifts.proofs.shifts_of.Goals as goal

pub loop-w-init : goal.loop-w-init
loop-w-init c =
    let e = ap (λ r. r.iter.rest.now) c.into_iter-w-iterator.ensures.into_iter_gives ∙ ap (λ i. i.rest.now) c.rev-w-items.ensures.source ∙ c.iter.ensures.rest in
    record { walk = rw e (back_start _); sets = rw e (shifts_none c.args.job.now) }

pub loop-w-preserved-then-kind_of-eq-SHIFT_WINDOW : goal.loop-w-preserved-then-kind_of-eq-SHIFT_WINDOW
loop-w-preserved-then-kind_of-eq-SHIFT_WINDOW c =
    let turn = c.loop-w.invariant in
    let taken = back_taken _ turn.walk c.in-Some.ensures.steps in
    record {
      walk = taken.walk;
      sets =
          shifts_more _ _ _ turn.sets taken.next taken.inside c.single.result c.union-windowed.result c.moments_in.result c.union.result
          (rw taken.word (sym c.kind_of.ensures.0 ∙ c.if-kind_of-eq-SHIFT_WINDOW.true))
          (rw taken.word c.shift_window_action-a.ensures.0)
          c.shift_window_action-a.ensures.1
          c.single.ensures
          c.union-windowed.ensures
          (rw taken.word c.moments_in.ensures)
          c.union.ensures;
    }

pub loop-w-preserved : goal.loop-w-preserved
loop-w-preserved c =
    let turn = c.loop-w.invariant in
    let taken = back_taken _ turn.walk c.in-Some.ensures.steps in
    record {
      walk = taken.walk;
      sets = shifts_other _ _ _ turn.sets taken.next taken.inside (rw taken.word (λ z. c.if-kind_of-eq-SHIFT_WINDOW.false (c.kind_of.ensures.0 ∙ z)));
    }

pub returns : goal.returns
returns c = shifts_all c.requires (rw c.in-None.ensures.steps.0 at c.loop-w.invariant.sets)
