-- `reading::rows::windows` meets its contract: each turn moves the window after the lowest end that is left over. Assumes nothing.
use mathlib.Core.Logic.Iff
use mathlib.Core.Logic.{inl, inr, ⊎_elim}
use Rattle.bitset.proofs.Joins.{split_start, split_turn, split_end}
use Rattle.bitset.proofs.In.{in_union}
use Rattle.reading.proofs.Windows.{after-some}
use Rattle.reading.proofs.Quiet.{quiet_window}
use Rattle.reading.proofs.rows.windows.Goals as goal

pub loop-end-init : goal.loop-end-init
loop-end-init c = rw (c.into_iter-end-iterator.ensures.into_iter_gives, c.members-end-items.ensures) split_start

pub loop-end-preserved : goal.loop-end-preserved
loop-end-preserved c =
    let w = quiet_window c.quiet_upto.ensures c.window-begins.ensures in
    split_turn c.loop-end.invariant c.in-Some.ensures.steps.0 c.in-Some.ensures.steps.1
    (λ m. Iff.trans (in_union c.union-found.ensures m) (⊎_elim inl (λ t. inr ((w m).0 t)), ⊎_elim inl (λ t. inr ((w m).1 t))))

pub returns : goal.returns
returns c = after-some (split_end c.in-None.ensures.steps.0 c.loop-end.invariant)
