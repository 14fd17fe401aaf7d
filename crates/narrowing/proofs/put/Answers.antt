-- A turn narrows member j, and what is sought with it. Assumes nothing.
use Rattle.std.proofs.Common.{◌≡◌, ℕ, ◌<◌, ◌≤◌, ◌&&◌, ◌↔◌, List, refl, subst, length}
use native.Mathlib.Omega.{arith}
use borrow.Author.Rules.{rules}
use lib.ListN.{set, length-set}
use Rattle.bitset.specs.Code.Members.{In, has, IsSetOf, FromSome}
use Rattle.bitset.proofs.In.{in_both, in_from, in_below, in_single, in_without}
use Rattle.keeping.specs.Code.Tables.{pair_at, Narrows}
use Rattle.keeping.specs.declared.Choice.{Choice}
use Rattle.narrowing.specs.Code.Open.{choice_at}
use Rattle.narrowing.specs.Code.Tables.{InTables}
use Rattle.narrowing.proofs.Moves.{fits-set}
use Rattle.narrowing.proofs.Narrowing.{Has, Ordered, has-start, has-next, has_fit}
use Rattle.narrowing.proofs.put.Invariants.{Narrowing}
use Rattle.narrowing.proofs.put.Goals.{After-inter-window, else-loop-j-test, then-loop-j-test+then-sought-eq0}
use Rattle.narrowing.proofs.put.Goals as goal

-- the window has what lies between `from` and the last end, which is a moment
inside : (c : After-inter-window) (es : ℕ → ℕ) → let o = c.args.state in
    In (choice_at o.members o.last).ends (es o.last) → (t : ℕ) → t ≤ es o.last → (t < 64) × (o.from ≤ t → In c.inter-window.result t)
inside c es final t u =
    let v = (c.upto_highest.ensures t).1 (record { member = es c.args.state.last; in_x = final; upto = u }) in
    let m = in_below c.upto_highest.type_inv v in
    (m, λ g. (in_both c.inter-window.ensures t).1 ((in_from c.from.ensures t).1 (g, m), v))

-- the members so far, of those of the set with member i begun at x
abbrev SoFar : After-inter-window → List Choice → ℕ → Type 0
SoFar c members sought = let a = c.args in let o = a.state in
    Narrowing a.tables.now a.i a.x o.from o.last c.without-left.result
    (set o.members a.i (record { begins = c.single.result; ends = (choice_at o.members a.i).ends })) (choice_at o.members o.last).ends members sought

-- one member more
module _ (c : After-inter-window) (members : List Choice) (sought j : ℕ) (new : Choice) (m s : ℕ) (inner : j < c.args.tables.now.count)
    (keeps : Narrows c.args.tables.now c.args.i c.args.x j c.inter-window.result (choice_at members j) new)
    (late : (k : ℕ) → In m k ↔ FromSome new.ends k) (both : IsSetOf s (λ k. has sought k && has m k)) (so_far : SoFar c members sought) where
  room : j < length members
  room = omega (arith, so_far.four, c.args.tables.now.few, inner)

  next : (bs es : ℕ → ℕ) → let a = c.args in let o = a.state in
      InTables a.tables.now o.from bs es → Ordered a.tables.now.count o.from o.last bs es → bs a.i ≡ a.x → In (choice_at o.members o.last).ends (es o.last)
      → Has a.tables.now.count members c.without-left.result o.last sought bs es → Has a.tables.now.count (set members j new) c.without-left.result o.last s bs es
  next bs es tab ord q final h =
      let a = c.args in
      let o = ord j inner in
      let w = inside c es final in
      let k = keeps.kept (bs j) (es j) (h.begin j inner)
      (subst (λ (z : ℕ). In (pair_at a.tables.now.goes a.i j z) (bs j)) q (tab.goes a.i j c.requires.member inner))
      ((w (bs j) (omega (arith, o))).1 o.0) (h.end j inner)
      (subst (λ (z : ℕ). In (pair_at a.tables.now.ends j a.i z) (es j)) q (tab.ends j a.i inner c.requires.member))
      ((w (es j) o.2).1 (omega (arith, o)))
      (λ z t g. tab.later j z inner ((in_from c.from.ensures z).0 ((in_both c.inter-window.ensures z).0 t).0).0 g) in
      has-next j new s room k.0 k.1 keeps.fewer
      ((in_both both (es a.state.last)).1 (
        h.final,
        (late (es a.state.last)).1 (record { member = es j; in_x = k.1; from = o.2; below = (w (es a.state.last) (omega arith)).0 }),
      )) h

  turned : SoFar c (set members j new) s
  turned = record {
    four = simp length-set so_far.four;
    kept = λ bs es tab o q h. next bs es tab o q h.final (so_far.kept bs es tab o q h);
  }

pub loop-j-preserved : goal.loop-j-preserved
loop-j-preserved c = turned (goal.at.loop-j-preserved c).After-inter-window _ _ _ _ _ _ c.loop-j-test.true c.narrowed-new.ensures c.from_lowest.ensures c.inter-sought.ensures c.loop-j.invariant

pub returns : goal.returns
returns c =
    let a = c.args in
    let o = a.state in
    let g = (goal.at.returns c).After-inter-window in
    -- when the loop ends, early or not
    let e : SoFar g c.loop-j-test.members c.loop-j-test.sought
    = elim c.loop-j-test.branch [
      | else-loop-j-test w ↦ rw (w.members-is, w.sought-is) c.loop-j.invariant
      | then-loop-j-test+then-sought-eq0 w ↦ rw (w.members-is, w.sought-is)
          (turned g _ _ _ _ _ _ w.loop-j-test.true w.narrowed-new.ensures w.from_lowest.ensures w.inter-sought.ensures c.loop-j.invariant)
    ] in (
      refl,
      refl,
      c.without-left.ensures,
      λ bs es tab f q.
          let room : a.i < length o.members = search rules in
          let old : Has a.tables.now.count o.members o.left o.last (choice_at o.members o.last).ends bs es
          = record { begin = f.begins; end = f.ends; fixed = f.fixed; final = f.ends o.last c.requires.last } in
          let start = has-start o.members a.i _ a.x room (in_single c.single.ensures) (in_without c.without-left.ensures) q old in
          let h = e.kept bs es tab f.inside q start in
          fits-set _ o.last _ (omega (arith, e.four, c.args.tables.now.few, c.requires.last)) (has_fit f.inside h)
          (h.begin o.last) (λ l. (in_both c.inter.ensures (es o.last)).1 (h.end o.last l, h.final)) (λ x t. t),
    )
