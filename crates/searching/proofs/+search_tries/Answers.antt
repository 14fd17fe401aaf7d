-- `search` and `tries` meet their contracts: each placement that is sought is found, or has a member or a begin that is still to be tried. Assumes
-- nothing.
use Prim.Native.Nat.{ℕ, ◌≤◌}
use mathlib.Core.Path.{◌≡◌, sym, subst}
use mathlib.Core.Logic.{inr}
use native.Mathlib.Omega.{arith}
use Rattle.bitset.specs.Code.Members.{In}
use Rattle.bitset.proofs.In.{in_both, in_zero, in_without, in_dropped}
use Rattle.narrowing.specs.Code.Open.{choice_at}
use Rattle.keeping.specs.Code.Tables.{pair_at}
use Rattle.ending.specs.Code.Search.{SoughtPlacement}
use Rattle.searching.proofs.Growth.{fewer, grown_none, grown_more, grown_as, ready_as, tried, skipped, over_both, tried_over, all_tried, finds_none}
use Rattle.searching.proofs.+search_tries.Goals as goal

pub search-returns-then-state-eq0 : goal.search-returns-then-state-eq0
search-returns-then-state-eq0 t c = let f = c.leaf.ensures in (f.0, λ e bs es l s. f.1 e bs es l s.masked s.fits)

pub search-loop-rest-init : goal.search-loop-rest-init
search-loop-rest-init t c =
    let a = c.args in
    let h = c.last_gap-h.ensures in
    -- some member that is left covers a gap
    let over : (g e : ℕ) (bs es : ℕ → ℕ) → In c.gaps-gaps.result g
    → SoughtPlacement a.tables.now a.state e bs es
    → (i : ℕ) × In a.state.left i × (bs i ≤ g) × (g ≤ es i)
    = λ g e bs es u s.
    let o = c.gaps-gaps.ensures g bs es u s.fits in
    let k = s.masked.covers g o.0 (omega (arith, o.1, s.final)) in
    (k.0, o.2 k.0 k.1 k.2 k.3, k.2, k.3) in
    record {
      grown = grown_none;
      untried = record { each = λ e bs es m s. inr (over_both h.2 (over _ e bs es (record { yes = c.lowest-g.ensures.member }) s) (over _ e bs es h.0 s)) };
      left = λ i u. u;
    }

pub search-loop-rest-preserved : goal.search-loop-rest-preserved
search-loop-rest-preserved t c =
    let v = c.loop-rest.invariant in
    let w = c.over-with.ensures in
    let n = c.tries-r.ensures in
    let grown = grown_as w.0 n.0 in
    record {
      grown = grown_more v.grown grown;
      left = λ i u. v.left i ((in_dropped c.lowest-i.ensures c.drop_lowest-rest.ensures i).0 u).0;
      untried = tried_over w.0 w.1 c.lowest-i.ensures c.drop_lowest-rest.ensures (w.3 c.args.tables.now.count) grown n.1 v.untried;
    }

pub search-returns : goal.search-returns
search-returns t c = let v = c.loop-rest.invariant in (v.grown, all_tried (λ bs es p. in_zero (omega (arith, c.loop-rest-test.false)) p.1) v.untried)

-- a begin from which the member has no end
pub tries-loop-x-preserved-then-inter-eq0 : goal.tries-loop-x-preserved-then-inter-eq0
tries-loop-x-preserved-then-inter-eq0 t c =
    let a = c.args in
    let l = c.requires.state.left _ c.requires.next in
    let v = c.loop-x.invariant in (
      v.0,
      skipped c.in-Some.ensures.steps.0 c.in-Some.ensures.steps.1
          (λ bs es h f q. in_zero c.if-inter-eq0.true ((in_both c.inter.ensures (es a.i)).1 (
            f.ends a.i l,
            subst (λ (m : ℕ). In m (es a.i)) (sym c.pair_at-row.ensures)
                (subst (λ (x : ℕ). In (pair_at a.tables.now.ends a.i a.i x) (es a.i)) q (h.ends a.i a.i l l)),
          ))) v.1,
    )

pub tries-search-r-requires : goal.tries-search-r-requires
tries-search-r-requires t c =
    let p = c.requires in
    let w = c.placed-next.ensures in
    let f = fewer c.args.state.left c.placed-next.result.left c.args.i w.2 p.next (omega (arith, p.state.left _ p.next, c.args.tables.now.few)) in (
      omega (arith, c.decreases, f),
      record {
        ready = ready_as (sym w.0) (sym c.loop-x.invariant.0.upto) p.state.ready;
        last = omega (arith, w.1, p.state.last);
        left = λ j u. p.state.left j ((in_without w.2 j).0 u).0;
      },
    )

-- a begin that is tried
pub tries-loop-x-preserved-then-left-last-ne0 : goal.tries-loop-x-preserved-then-left-last-ne0
tries-loop-x-preserved-then-left-last-ne0 t c =
    let v = c.loop-x.invariant in
    let w = c.placed-next.ensures in
    let g = grown_as w.0 c.search-r.ensures.0 in
    (grown_more v.0 g, tried w.0 w.1 c.in-Some.ensures.steps.0 c.in-Some.ensures.steps.1 w.3 g c.search-r.ensures.1 v.1)

-- a begin with which nothing is left
pub tries-loop-x-preserved : goal.tries-loop-x-preserved
tries-loop-x-preserved t c =
    let v = c.loop-x.invariant in
    let w = c.placed-next.ensures in
    let none : (choice_at c.placed-next.result.members c.placed-next.result.last).ends ≡ 0
    = subst (λ (x : ℕ). (choice_at c.placed-next.result.members x).ends ≡ 0) (sym w.1) (omega (arith, c.if-left-last-ne0.false)) in (
      v.0,
      tried w.0 w.1 c.in-Some.ensures.steps.0 c.in-Some.ensures.steps.1 w.3 grown_none
          (finds_none c.placed-next.result c.loop-x.r (omega (arith, w.1, c.requires.state.last)) none) v.1,
    )

pub tries-returns : goal.tries-returns
tries-returns t c = let v = c.loop-x.invariant in (v.0, all_tried (λ bs es p. in_zero c.in-None.ensures.steps.0 p) v.1)
