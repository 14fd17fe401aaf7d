-- A turn leaves member j fewer begins, and those of each placement. Assumes nothing.
use Rattle.std.proofs.Common.{refl}
use native.Mathlib.Omega.{arith}
use lib.ListN.{length-set}
use Rattle.bitset.proofs.In.{in_zero}
use Rattle.narrowing.proofs.Moves.{fits-set}
use Rattle.narrowing.proofs.bounds.tighten.Goals.{then-bounds-j-ne0+else-kept-eq0, else-bounds-j-ne0}
use Rattle.narrowing.proofs.bounds.tighten.Goals as goal

pub returns-then-kept-eq0 : goal.returns-then-kept-eq0
returns-then-kept-eq0 c =
    let l = c.loop-j in (
      refl,
      refl,
      refl,
      λ bs es b f. let t = l.invariant.fits bs es b f in
          in_zero c.if-kept-eq0.true (c.bounded-kept.ensures.0 bs es b (t.begins l.j c.loop-j-test.true) t.ends),
    )

pub loop-j-preserved : goal.loop-j-preserved
loop-j-preserved c =
    let l = c.loop-j in
    let v = l.invariant in
    elim c.if-bounds-j-ne0.branch [
      | then-bounds-j-ne0+else-kept-eq0 w ↦ rw w.members-is (record {
        four = simp length-set v.four;
        fits = λ bs es b f.
            let t = v.fits bs es b f in
            let n = w.bounded-kept.ensures in
            fits-set _ l.j _ (omega (arith, v.four, c.requires.0, c.loop-j-test.true)) t (λ g. n.0 bs es b (t.begins l.j g) t.ends) (t.ends l.j) n.1;
      })
      | else-bounds-j-ne0 w ↦ rw w.members-is v
    ]
