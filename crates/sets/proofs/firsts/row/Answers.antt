-- `sets::firsts::row` meets its contract. The invariant: the placements are found in which a member before `first` begins first. Assumes nothing.
use Prim.Native.Nat.{ℕ}
use mathlib.Core.Path.{◌≡◌, refl, sym, subst}
use mathlib.Core.Logic.{by_cases}
use native.Mathlib.Decide.{dec_lt}
use native.Mathlib.Omega.{arith}
use Rattle.searching.proofs.Growth.{grown_none, grown_more, ready_as}
use Rattle.sets.proofs.firsts.row.Goals as goal

pub loop-first-init : goal.loop-first-init
loop-first-init c = (grown_none, λ f l. absurd (omega arith))

pub from_each-found-requires : goal.from_each-found-requires
from_each-found-requires c = (ready_as refl (sym c.loop-first.invariant.0.upto) c.requires, c.loop-first-test.true)

pub loop-first-preserved : goal.loop-first-preserved
loop-first-preserved c =
    let a = c.args in
    let v = c.loop-first.invariant in
    let n = c.from_each-found.ensures in (
      grown_more v.0 n.0,
      λ f u e bs es k t b o q g. by_cases (dec_lt f c.loop-first.first)
          (λ d. n.0.kept e (v.1 f d e bs es k t b (omega (arith, o, n.0.upto)) q g))
          (λ d. let j : f ≡ c.loop-first.first = omega arith in n.1 e bs es k t b (omega (arith, o, n.0.upto)) (subst (λ (x : ℕ). bs x ≡ a.a) j q) g),
    )

pub returns : goal.returns
returns c =
    let v = c.loop-first.invariant in (
      v.0,
      λ e bs es m t b o g.
          let i = m.inside 0 c.requires.some in
          let x = m.covers c.args.a (omega arith) (omega arith) in
          v.1 x.0 (omega (arith, x.1, c.loop-first-test.false)) e bs es m t b (omega (arith, o, v.0.upto)) (omega (arith, x.2, m.inside x.0 x.1)) g,
    )
