-- `sets::tables::fill_later` meets its contract. The invariant: the masks of the members before i are right. Assumes nothing.
use Prim.Native.Nat.{ℕ, ◌+◌, ◌*◌, ◌≤◌}
use mathlib.Core.Path.{◌≡◌, sym, subst}
use mathlib.Core.Logic.{by_cases}
use native.Mathlib.Decide.{dec_lt}
use native.Mathlib.Omega.{arith}
use lib.ListN.{get_or}
use Rattle.bitset.specs.Code.Members.{In}
use Rattle.keeping.specs.Code.Tables.{pair_at}
use Rattle.sets.proofs.tables.fill_later.Goals as goal

pub loop-i-preserved : goal.loop-i-preserved
loop-i-preserved c =
    let l = c.loop-i in
    let h = l.invariant in
    let E = c.args.tables.now.ends in
    let new = c.fill_later_row.new.later in
    let o = c.fill_later_row.ensures in
    let row : (x y e : ℕ) → c.args.span.a ≤ x → x ≤ y → y ≤ c.args.span.z → In (pair_at E l.i l.i y) e → In (get_or new (l.i * 64 + x) 0) e
    = rw h.ends at o.0 in
    record {
      after = λ k x y e g m n t u. by_cases (dec_lt k l.i)
          (λ b. subst (λ (v : ℕ). In v e) (sym (o.1 (k * 64 + x) (omega (arith, c.args.tables.now.few)))) (h.after k x y e b m n t u))
          (λ b.
          let q : l.i ≡ k = omega arith in
          subst (λ (k : ℕ). In (get_or new (k * 64 + x) 0) e) q (row x y e m n t (subst (λ (k : ℕ). In (pair_at E k k y) e) (sym q) u)));
      masks = record { conditions = h.masks.conditions; count = h.masks.count; allow = h.masks.allow };
      ends = h.ends;
      goes = h.goes;
      bounds = h.bounds;
    }
