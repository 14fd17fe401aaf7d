-- What member j keeps: the begins are in three sets at once, and the ends in what is later than the lowest of them. Assumes nothing.
use Rattle.std.proofs.Common.{ℕ, ◌≡◌}
use mathlib.Core.Logic.{◌↔◌}
use Rattle.bitset.specs.Code.Members.{In, has, IsSetOf}
use mathlib.Core.Bool.{◌&&◌}
use Rattle.bitset.proofs.Ends.{lowest_le}
use Rattle.bitset.proofs.In.{in_both, in_zero}
use Rattle.keeping.proofs.entries.narrowed.Goals as goal

-- the begins that member j keeps
kept : (old table window there begins at : ℕ) → at ≡ table → IsSetOf there (λ k. has at k && has window k) → IsSetOf begins (λ k. has old k && has there k) → (y : ℕ) →
    In begins y ↔ (In old y × In table y × In window y)
kept old table window there begins at p t b y = let u = in_both b y in let v = in_both t y in
    (λ t. let k = u.0 t in let q = v.0 k.1 in (k.0, rw p at q.0, q.1), λ k. u.1 (k.0, v.1 (rw p k.1, k.2)))

pub returns-then-begins-eq0 : goal.returns-then-begins-eq0
returns-then-begins-eq0 c =
    let k = kept _ _ _ _ _ _ c.pair_at.ensures c.inter-there.ensures c.inter-begins.ensures in
    record {
      kept = λ y e b g w o m v l. in_zero c.if-begins-eq0.true ((k y).1 (b, g, w));
      fewer = λ y t. in_zero c.if-begins-eq0.true t;
    }

pub returns : goal.returns
returns c =
    let k = kept _ _ _ _ _ _ c.pair_at.ensures c.inter-there.ensures c.inter-begins.ensures in
    let l = c.lowest-low in
    record {
      kept = λ y e b g w o m v later. let t = (k y).1 (b, g, w) in (
        t,
        (in_both c.inter.ensures e).1 (
          o,
          (in_both c.inter-after.ensures e).1 (
            (in_both c.inter-then.ensures e).1 (rw c.pair_at-2.ensures m, v),
            later l.result ((k l.result).0 (record { yes = l.ensures.member })).2 (lowest_le l.ensures t.yes),
          ),
        ),
      );
      fewer = λ y t. ((k y).0 t).0;
    }
