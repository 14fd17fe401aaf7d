-- `sets::bounds::mark_pair` meets its contract. The invariant: the begins before y are marked. Assumes nothing.
use Prim.Native.Nat.{ℕ, ◌+◌, ◌*◌}
use mathlib.Core.Path.{subst}
use mathlib.Core.Logic.{by_cases}
use native.Mathlib.Decide.{ℕ_discrete}
use native.Mathlib.Omega.{arith}
use lib.ListN.{get_or}
use Rattle.bitset.specs.Code.Members.{In}
use Rattle.bitset.proofs.In.{in_both, in_between}
use Rattle.sets.proofs.Late.{grows_more, marked_more, marked_same}
use Rattle.sets.proofs.bounds.mark_pair.Invariants.{MarkedTo}
use Rattle.sets.proofs.bounds.mark_pair.Goals as goal
use Rattle.sets.proofs.bounds.mark_pair.Goals.{After-mark}

-- begin y is marked too
stepped : (c : After-mark) → let a = c.args in MarkedTo a.ends.now a.p a.span.a a.span.z a.bounds.now c.mark.new.bounds (c.loop-y.y + 1)
stepped c =
    let l = c.loop-y in
    let a = c.args in
    let o = c.mark.ensures in
    record {
      grows = grows_more l.invariant.grows o.0;
      marked = λ v e g h m n t. by_cases (ℕ_discrete v l.y)
          (λ q. marked_same q (o.1 e ((in_both c.inter-mask.ensures e).1
          (subst (λ (v : ℕ). In (get_or a.ends.now (a.p * 64 + v) 0) e) q t, (in_between c.all-window.ensures e).1 (m, n)))))
          (λ q. marked_more o.0 (l.invariant.marked v e g (omega arith) m n t));
    }

pub loop-y-preserved : goal.loop-y-preserved
loop-y-preserved c = stepped (goal.at.loop-y-preserved c).After-mark

pub returns-2 : goal.returns-2
returns-2 c = let s = stepped (goal.at.returns-2 c).After-mark in (s.grows, λ y e g h. s.marked y e g (omega arith))
