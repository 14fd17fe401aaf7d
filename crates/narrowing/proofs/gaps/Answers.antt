-- A turn takes from the gaps what member i covers, unless it is left. Assumes nothing.
use Rattle.std.proofs.Common.{ℕ, ◌+◌, ◌≤◌, refl, sym, ◌∙◌}
use borrow.Author.Count.{below_more}
use Rattle.bitset.specs.Code.Members.{In}
use Rattle.bitset.proofs.In.{in_minus, in_zero}
use Rattle.narrowing.specs.declared.Open.{Open}
use Rattle.narrowing.proofs.gaps.Invariants.{Gap}
use Rattle.narrowing.proofs.gaps.Goals.{then-not-has, else-not-has}
use Rattle.narrowing.proofs.gaps.Goals as goal

more : {i g : ℕ} {o : Open} {bs es : ℕ → ℕ} → (bs i ≤ g → g ≤ es i → In o.left i) → Gap i o bs es g → Gap (i + 1) o bs es g
more {i = i} {g} {o} {bs} {es} new h =
    record { after = h.after; upto = h.upto; left = below_more (λ j. bs j ≤ g → g ≤ es j → In o.left j) i h.left new }

pub returns-then-has : goal.returns-then-has
returns-then-has c = λ g bs es t f. in_zero refl t

pub returns-then-ends-eq0 : goal.returns-then-ends-eq0
returns-then-ends-eq0 c = λ g bs es t f. in_zero refl t

pub loop-i-preserved : goal.loop-i-preserved
loop-i-preserved c =
    let h = c.has-in-loop-i in
    let u = c.loop-i-test.true in
    let k = c.loop-i in
    elim c.if-not-has.branch [
      | then-not-has z ↦ rw z.r-is (λ g bs es t f. let w = (in_minus z.minus-r.ensures g).0 t in
          more (λ l m. absurd (w.1 (z.reach.ensures (bs k.i) (es k.i) g (f.begins k.i u) (f.ends k.i u) l m)))
          (k.invariant g bs es w.0 f))
      | else-not-has z ↦ rw z.r-is (λ g bs es t f. more (λ l m. record { yes = sym h.ensures ∙ z.if-not-has.false }) (k.invariant g bs es t f))
    ]
