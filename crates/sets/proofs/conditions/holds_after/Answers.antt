-- `sets::conditions::holds_after` meets its contract. Assumes nothing.
use Prim.Native.Nat.{ℕ, ◌+◌, ◌≤◌}
use mathlib.Core.Logic.{◌↔◌}
use native.Mathlib.Omega.{arith}
use Rattle.bitset.specs.Code.Members.{In}
use Rattle.bitset.proofs.In.{in_both, in_between}
use Rattle.sets.proofs.Masks.{through}
use Rattle.sets.proofs.conditions.holds_after.Goals as goal
use Rattle.sets.proofs.conditions.holds_after.Goals.{After-inter}

-- the moments of the window at which the formula fails
inside : (c : After-inter) (t : ℕ) → let a = c.args in In c.inter.result t ↔ (In a.asked.fails t × ((a.y + a.asked.first ≤ t) × (t ≤ a.y + a.asked.last)))
inside c t = (
  λ u. let o = (in_both c.inter.ensures t).0 u in (o.0, (in_between c.between.ensures t).0 o.1),
  λ o. (in_both c.inter.ensures t).1 (o.0, (in_between c.between.ensures t).1 o.1),
)

pub returns : goal.returns
returns c = record {
  met = λ value k a z x l u f.
      let s = c.args in
      let h = through value k _ f (s.y + s.asked.first) (s.y + s.asked.last) c.inter.type_inv (λ t v w. (omega arith, omega arith, omega arith)) (inside (goal.at.returns c).After-inter) in
      (λ z. (omega arith, h.0 z), λ m. h.1 m.1);
}
