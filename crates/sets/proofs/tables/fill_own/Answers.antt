-- `sets::tables::fill_own` meets its contract. The invariant: the rows of the members before i are right. Assumes nothing.
use mathlib.Core.Path.{◌∙◌}
use native.Mathlib.Omega.{arith}
use Rattle.sets.proofs.Pairs.{own_rows_more, same_more}
use Rattle.sets.proofs.tables.fill_own.Goals as goal

pub loop-i-preserved : goal.loop-i-preserved
loop-i-preserved c =
    let l = c.loop-i in
    let h = l.invariant in
    let o = c.fill_own_row.ensures in (
      own_rows_more l.i c.member_node.result c.requires.0 (omega arith) (omega (arith, c.args.span.within, c.args.span.moments)) c.member_node.ensures.0 h.0 (rw h.2 at o.0),
      same_more h.1 o.1,
      o.2 ∙ h.2,
    )

pub returns : goal.returns
returns c =
    let h = c.loop-i.invariant in
    (record { own = λ i x e l. h.0.own i x e (omega arith); kept = h.0.kept }, h.1, h.2)
