-- `history::tables::row_of` meets its contract. The invariant: once the words that are left are stored too, all are. Assumes nothing.
use native.Mathlib.Omega.{arith}
use lib.ListN.{length-set}
use Rattle.history.proofs.Stores.{before_last, overlaid_none, overlaid_before, overlaid_read, overlaid_unread}
use Rattle.history.proofs.tables.row_of.Goals as goal

pub loop-w-preserved-in-Some-given : goal.loop-w-preserved-in-Some-given
loop-w-preserved-in-Some-given g c =
    let turn = c.loop-w.invariant in
    let last = before_last _ c.in-Some.ensures.steps (omega arith) turn.fits in
    record {
      size = rw length-set turn.size;
      fits = last.1;
      left =
          λ test gives reads new rest.
          turn.left test gives reads new
          (overlaid_before c.in-Some.ensures.steps (overlaid_read (omega (arith, c.requires.1 _ _ last.0 c.in-Some-given.ensures)) (reads _ _ last.0 c.in-Some-given.ensures)) rest);
    }

pub loop-w-preserved : goal.loop-w-preserved
loop-w-preserved g c =
    let turn = c.loop-w.invariant in
    let last = before_last _ c.in-Some.ensures.steps (omega arith) turn.fits in
    record {
      size = turn.size;
      fits = last.1;
      left =
          λ test gives reads new rest.
          turn.left test gives reads new
          (overlaid_before c.in-Some.ensures.steps (overlaid_unread (reads _ _ last.0 c.in_default.ensures)) rest);
    }

pub returns : goal.returns
returns g c test gives reads = c.loop-w.invariant.left test gives reads _ (overlaid_none _ c.in-None.ensures.steps.0)
