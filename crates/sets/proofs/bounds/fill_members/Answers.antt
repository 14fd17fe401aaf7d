-- `sets::bounds::fill_members` meets its contract. Assumes nothing.
use mathlib.Core.Logic.{inl, inr, ⊎_elim}
use native.Mathlib.Omega.{arith}
use Rattle.bitset.proofs.In.{in_union, in_single}
use Rattle.sets.proofs.Late.{bounds_more}
use Rattle.sets.proofs.bounds.fill_members.Goals as goal

pub returns : goal.returns
returns c = λ count bs es i l within ends have.
    let a = c.args in
    let o = c.fill_pair.ensures in
    let new = in_union c.union.ensures in
    let one = in_single c.single.ensures in
    let u = within a.j l in
    let v = within a.w i in
    bounds_more a.w a.j c.union.result (omega (arith, c.requires)) o.0
    (λ c. (λ t. ⊎_elim inl (λ q. inr ((one c).0 q)) ((new c).0 t), λ t. (new c).1 (⊎_elim inl (λ q. inr ((one c).1 q)) t)))
    (o.1 (bs a.j) (es a.w) u.0 (omega arith) (omega arith) v.2 (ends a.w a.j i l)) have
