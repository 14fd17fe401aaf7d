-- `formulas::held_for` meets its contract. The invariant: `r` is 'and' over the values from `y` to `k` moments before `t`. Assumes nothing.
use mathlib.Core.Path.{◌≡◌}
use Prim.Native.Nat.{◌-◌}
use native.Mathlib.Omega.{arith}
use Rattle.formulas.specs.Values.{throughout}
use Rattle.formulas.specs.Code.Table.{tabulated}
use Rattle.formulas.proofs.Held.{throughout-more, ago-most}
use Rattle.formulas.proofs.held_for.Goals as goal

pub loop-k-init : goal.loop-k-init
unfolding throughout
loop-k-init c =
    let a = c.args in
    let none : a.y - a.y ≡ 0 = omega arith in
    record {
      most = rw c.ago-r.ensures (ago-most (tabulated a.values.now a.x) a.t (λ u. c.requires.form.so_far.most _) a.y);
      so_far = rw none c.ago-r.ensures;
    }

pub loop-k-preserved : goal.loop-k-preserved
loop-k-preserved c =
    let a = c.args in
    let turn = c.loop-k in
    record {
      most = rw c.by_table-r.ensures (c.requires.form.conjunction.most _);
      so_far =
          throughout-more a.and.now (tabulated a.values.now a.x) a.t a.y turn.k (omega arith) (omega arith) turn.invariant.so_far c.ago.ensures
          c.by_table-r.ensures;
    }
