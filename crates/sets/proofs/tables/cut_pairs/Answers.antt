-- `sets::tables::cut_pairs` meets its contract. The invariant: the tables have what they had of each placement, and no end more. Assumes
-- nothing.
use Rattle.sets.proofs.Pairs.{left_more, same_more}
use Rattle.sets.proofs.tables.cut_pairs.Goals as goal

pub loop-p-preserved-in-Some-members_of : goal.loop-p-preserved-in-Some-members_of
loop-p-preserved-in-Some-members_of c =
    let h = c.loop-p.invariant in
    let o = c.cut_pair.ensures in
    let m = c.in-Some-members_of.ensures in
    (same_more h.0 o.0, left_more h.1 (o.1 c.args.tables.now.count m.0 m.1 c.args.tables.now.few))
