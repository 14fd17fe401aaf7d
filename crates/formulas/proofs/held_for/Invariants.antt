-- `formulas::held_for` meets its contract. The invariant: `r` is 'and' over the values from `y` to `k` moments before `t`. Assumes nothing.
use mathlib.Core.Path.{◌≡◌}
use Prim.Native.Nat.{◌-◌, ◌≤◌}
use Rattle.formulas.specs.Values.{throughout}
use Rattle.formulas.specs.Code.Table.{tabulated}
use Rattle.formulas.proofs.held_for.Given as goal

abbrev pub invariant-loop-k : goal.invariant-loop-k
invariant-loop-k l = record { most : l.r ≤ 2; so_far : l.r ≡ throughout l.and (tabulated l.values l.x) l.t l.k (l.y - l.k) }
