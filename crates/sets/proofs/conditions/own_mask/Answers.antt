-- `sets::conditions::own_mask` meets its contract: the test tells of each moment whether the condition is met. Assumes nothing.
use native.Mathlib.Omega.{arith}
use Rattle.std.proofs.Common.{rules}
use Rattle.model.specs.Forms.{HoldsBefore, HoldsAfter}
use Rattle.sets.specs.Set.{MetAs}
use Rattle.sets.specs.Code.Masks.{Tells}
use Rattle.sets.proofs.Masks.{picked_is}
use Rattle.sets.proofs.conditions.own_mask.Goals as goal

pub returns-in-2 : goal.returns-in-2
returns-in-2 c = let a = c.args in record {
  holds_before = λ q value k x f. picked_is (λ y. MetAs HoldsBefore value a.span.last k a.asked.first a.asked.last y y x)
      (λ y r l g m. let told : Tells HoldsBefore a.span.last a.asked.first a.asked.last a.asked.fails y r = search rules in told.met value k a.span.a a.span.z x l g f) c.moments_where.ensures;
  holds_after = λ q. absurd (omega arith);
}

pub returns-in-3 : goal.returns-in-3
returns-in-3 c = let a = c.args in record {
  holds_before = λ q. absurd (omega arith);
  holds_after = λ q value k x f. picked_is (λ y. MetAs HoldsAfter value a.span.last k a.asked.first a.asked.last y y x)
      (λ y r l g m. let told : Tells HoldsAfter a.span.last a.asked.first a.asked.last a.asked.fails y r = search rules in told.met value k a.span.a a.span.z x l g f) c.moments_where-in-3.ensures;
}
