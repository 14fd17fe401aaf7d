-- `sets::firsts::from_each` meets its contract. The invariant: the placements are found in which a member before `last` ends last. Assumes nothing.
use Prim.Native.Nat.{ℕ, ◌+◌, ◌*◌, ◌≤◌}
use mathlib.Core.Path.{◌≡◌, sym, ◌∙◌, subst}
use mathlib.Core.Logic.{by_cases, ⊎_elim}
use native.Mathlib.Decide.{dec_lt}
use native.Mathlib.Omega.{arith}
use lib.ListN.{get_or}
use Rattle.bitset.specs.Code.Members.{has, In}
use Rattle.bitset.proofs.Bools.{not_both, either}
use Rattle.bitset.proofs.In.{in_both, in_minus, in_zero}
use Rattle.keeping.specs.Code.Tables.{pair_at}
use Rattle.narrowing.specs.Code.Tables.{InTables}
use Rattle.ending.specs.Code.Search.{Masked}
use Rattle.searching.proofs.Growth.{grown_none, grown_more, grown_as}
use Rattle.sets.proofs.firsts.from_each.Goals.{After-inter, then-inter-ne0, else-inter-ne0}
use Rattle.sets.proofs.firsts.from_each.Goals as goal

-- where the first member has no end, nothing begins with it
pub returns-then-pair_at-eq0 : goal.returns-then-pair_at-eq0
returns-then-pair_at-eq0 c = let a = c.args in (
  grown_none,
  λ e bs es m t d l q g. in_zero (sym c.pair_at.ensures ∙ c.if-pair_at-eq0.true)
      (subst (λ (x : ℕ). In (pair_at a.tables.now.ends a.first a.first x) (es a.first)) q (m.lawful a.first c.requires.1).reads),
)

-- all ends that the last member may have are found
found : (c : After-inter) → c.inter.result ≡ 0 → (e : ℕ) (bs es : ℕ → ℕ) → let a = c.args in let l = c.loop-last in
    Masked a.tables.now a.a e bs es → InTables a.tables.now a.a bs es → es l.last ≡ e → In a.goal e → In l.r.ends e
found c none e bs es h t r g =
    let a = c.args in
    let l = c.loop-last in
    let o = h.inside l.last c.loop-last-test.true in
    ⊎_elim (λ f. record { yes = f })
    (λ f. in_zero none ((in_both c.inter.ensures e).1 (
      subst (λ (x : ℕ). In (get_or a.tables.now.later (l.last * 64 + a.a) 0) x) r (t.later l.last a.a c.loop-last-test.true (omega arith) o.0),
      (in_minus c.minus-sought.ensures e).1 (g, λ k. not_both k.yes f),
    )))
    (either (has l.r.ends e))

pub loop-last-preserved : goal.loop-last-preserved
loop-last-preserved c =
    let a = c.args in
    let l = c.loop-last in
    let v = l.invariant in
    elim c.if-inter-ne0.branch [
      | then-inter-ne0 w ↦
          let n = w.from_first-r.ensures in
          let u = w.unplaced-state.ensures in
          let grown = grown_as u.0 n.0 in
          rw w.r-is (
            grown_more v.0 grown,
            λ m z e bs es k t b o q r g. by_cases (dec_lt m l.last)
                (λ d. n.0.kept e (v.1 m d e bs es k t b (omega (arith, o, n.0.upto)) q r g))
                (λ d.
                let j : m ≡ l.last = omega arith in
                let last : es l.last ≡ e = subst (λ (x : ℕ). es x ≡ e) j r in
                let upto : e ≤ l.r.upto = omega (arith, o, n.0.upto) in
                n.1 e bs es upto (record {
                  masked = subst (λ (x : ℕ). Masked a.tables.now x e bs es) (sym u.0) k;
                  tables = subst (λ (x : ℕ). InTables a.tables.now x bs es) (sym u.0) t;
                  bounded = b;
                  fits = u.3 bs es t.later (λ i p. let h = k.inside i p in (h.0, h.1, omega (arith, h.2, last), omega (arith, h.2, upto)))
                      (subst (λ (x : ℕ). In a.goal x) (sym last) g);
                  final = subst (λ (x : ℕ). es x ≡ e) (sym u.1) last;
                }) (q ∙ sym u.0)),
          )
      | else-inter-ne0 w ↦ rw w.r-is (
        v.0,
        λ m z e bs es k t b o q r g. by_cases (dec_lt m l.last)
            (λ d. v.1 m d e bs es k t b o q r g)
            (λ d. let j : m ≡ l.last = omega arith in
            found (goal.at.loop-last-preserved c).After-inter w.if-inter-ne0.false e bs es k t (subst (λ (x : ℕ). es x ≡ e) j r) g),
      )
    ]

pub returns : goal.returns
returns c =
    let r = c.requires.0 in
    let v = c.loop-last.invariant in (
      v.0,
      λ e bs es m t b o q g.
          let i = m.inside 0 r.some in
          let y = m.covers e (omega arith) (omega arith) in
          v.1 y.0 (omega (arith, y.1, c.loop-last-test.false)) e bs es m t b (omega (arith, o, v.0.upto)) q (omega (arith, y.3, m.inside y.0 y.1)) g,
    )
