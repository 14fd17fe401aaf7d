-- `sets::bounds::mark` meets its contract. Assumes nothing.
use Prim.Native.Nat.{◌+◌, ◌*◌, ◌<◌}
use mathlib.Core.Path.{refl}
use mathlib.Core.Logic.{inl, inr}
use native.Mathlib.Omega.{arith}
use lib.ListN.{set, length-set}
use Rattle.bitset.proofs.Ends.{highest_ge, lowest_le}
use Rattle.bitset.proofs.In.{in_union, in_single, in_below, in_zero}
use Rattle.sets.proofs.Late.{in_new, grows_none, grows_set, grows_more}
use Rattle.sets.proofs.bounds.mark.Goals as goal

pub returns-then-mask-eq0 : goal.returns-then-mask-eq0
returns-then-mask-eq0 c = (grows_none, λ e t. in_zero c.if-mask-eq0.true t)

pub returns : goal.returns
returns c =
    let a = c.args in
    let high = c.highest in
    let low = c.lowest in
    let begin = (in_single c.single-begin.ensures a.y).1 refl in
    let new = in_union c.union.ensures in
    let new' = in_union c.union-2.ensures in
    let i = a.p * 64 + high.result in
    let k = 1024 + a.p * 64 + low.result in
    let l : i < 1024 = omega (arith, c.requires.0, high.ensures.upto) in
    let m : k < 2048 = omega (arith, c.requires.0, low.ensures.below) in
    let g = grows_set {l = a.bounds.now} i c.union.result (omega arith) (λ y t. (new y).1 (inl t)) in
    let h = grows_set k c.union-2.result m (λ y t. (new' y).1 (inl t)) in (
      grows_more g h,
      λ e t. record {
        high = high.result;
        low = low.result;
        above = highest_ge high.ensures (in_below c.ranges.mask.fits t) t.yes;
        moment = omega (arith, high.ensures.upto);
        below = lowest_le low.ensures t.yes;
        late = h.kept _ _ (in_new a.bounds.now i c.union.result (omega (arith, c.told-bounds, l)) refl ((new a.y).1 (inr begin)));
        soon = in_new (set a.bounds.now i c.union.result) k c.union-2.result (simp length-set (omega (arith, c.told-bounds, m))) refl ((new' a.y).1 (inr begin));
      },
    )
