-- The member of a turn is tied to j, and both are members of the set. Assumes nothing.
use Rattle.bitset.proofs.In.{in_both, in_without}
use Rattle.narrowing.proofs.bounds.bounded.Goals as goal

pub loop-w-preserved : goal.loop-w-preserved
loop-w-preserved c =
    let v = c.loop-w.invariant in
    let turn = c.in-Some.ensures.steps in
    let w = c.in-Some.w in
    let t = v.tied w (record { yes = turn.0.member }) in
    let both = in_both c.inter-r.ensures in
    record {
      tied = λ k t. v.tied k ((in_without (turn.1.rest w turn.0) k).0 t).0;
      kept = λ bs es h b e. let j = c.args.j in let o = h w j t.0 c.requires.1 t.1 in
          (both (bs j)).1 (v.kept bs es h b e, c.beside-kept.ensures (bs j) (es w) (e w t.0) (record { late = o.0; soon = o.1 }));
      fewer = λ x t. v.fewer x ((both x).0 t).0;
    }
