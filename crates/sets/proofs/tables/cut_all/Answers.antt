-- `sets::tables::cut_all` meets its contract. The invariant: what the conditions before c leave is in the tables. Assumes nothing.
use native.Mathlib.Omega.{arith}
use Rattle.sets.proofs.Pairs.{same_more}
use Rattle.sets.proofs.tables.cut_all.Goals as goal

pub cut_for-requires : goal.cut_for-requires
cut_for-requires c = let t = c.args.tables.now in let n = t.named c.loop-c.c c.loop-c-test.true in
    (omega (arith, t.listed, c.loop-c-test.true), omega (arith, n.0, t.few), omega (arith, n.1, t.few))

pub loop-c-preserved : goal.loop-c-preserved
loop-c-preserved c =
    let l = c.loop-c in
    let o = c.cut_for.ensures in (
      same_more l.invariant.0 o.0,
      λ count bs es w few met have.
          let m = met l.c (omega arith) in
          o.1 count bs es w few m.0 m.1 (rw l.invariant.0.masks.allow m.2) (l.invariant.1 count bs es w few (λ d g. met d (omega arith)) have),
    )

pub returns : goal.returns
returns c = (c.loop-c.invariant.0, λ count bs es w few met. c.loop-c.invariant.1 count bs es w few (λ d g. met d (omega arith)))
