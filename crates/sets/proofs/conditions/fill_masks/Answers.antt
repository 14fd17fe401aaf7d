-- `sets::conditions::fill_masks` meets its contract. The invariant: the masks for the begins before x are right. Assumes nothing.
use Prim.Native.Nat.{ℕ, ◌+◌, ◌*◌, ◌≤◌}
use mathlib.Core.Path.{◌≡◌, subst, ◌∙◌}
use mathlib.Core.Logic.{◌↔◌}
use native.Mathlib.Omega.{arith}
use lib.ListN.{set, length-set}
use lib.Seq.{get_or-set_other}
use Rattle.bitset.specs.Code.Members.{In}
use Rattle.model.specs.Forms.{condition_number}
use Rattle.model.specs.Code.Arrays.{value_in}
use Rattle.words.proofs.Entries.{entries_more}
use Rattle.sets.specs.Set.{MetAt}
use Rattle.sets.specs.Code.Masks.{Failing}
use Rattle.sets.proofs.Masks.{mask_met}
use Rattle.sets.proofs.conditions.fill_masks.Invariants.{MasksTo}
use Rattle.sets.proofs.conditions.fill_masks.Goals as goal
use Rattle.sets.proofs.conditions.fill_masks.Goals.{After-mask_at}

-- the mask that is stored
new : (c : After-mask_at) → let a = c.args in let x = c.loop-x.x in (y : ℕ) →
    In c.mask_at.result y ↔ ((a.span.a ≤ y) × (y ≤ a.span.z) × MetAt (value_in a.values.now) a.span.last a.w y y x)
new c =
    let a = c.args in
    let k = c.condition_formula in
    let form = c.form_of-form in
    let last = c.condition_n-last in
    let fails = c.failing_for-fails in
    let x = c.loop-x.x in
    let value = value_in a.values.now in
    let of : (f : ℕ) → form.result ≡ f → Failing (condition_number f) value a.span.last k.result last.result a.span.a a.span.z fails.result
    = λ f q. subst (λ (f : ℕ). Failing (condition_number f) value a.span.last k.result last.result a.span.a a.span.z fails.result) q fails.ensures in
    mask_met value a.span.last a.w a.span.a a.span.z x form.ensures.0 k.ensures.0
    c.condition_m-first.ensures.0 last.ensures.0
    (c.mask_at.ensures value a.span.last k.result fails.ensures (λ q. c.own_mask-own.ensures.holds_before q value k.result x (of 2 q))
    (λ q. c.own_mask-own.ensures.holds_after q value k.result x (of 3 q)))

stepped : (c : After-mask_at) → let a = c.args in
    MasksTo a.values.now a.w a.c a.span.a a.span.z a.span.last a.allow.now (set c.loop-x.allow (a.c * 64 + c.loop-x.x) c.mask_at.result) (c.loop-x.x + 1)
stepped c =
    let a = c.args in
    let l = c.loop-x in
    let long = l.invariant.long in
    record {
      long = simp length-set long;
      masks = λ u y g h. entries_more (λ u. a.c * 64 + u) (λ u m. a.span.a ≤ u → (y : ℕ) → In m y ↔ ((a.span.a ≤ y) × (y ≤ a.span.z) × MetAt (value_in a.values.now) a.span.last a.w y y u))
          l.allow l.x c.mask_at.result (omega arith) (λ u b q. omega arith) (λ u b k y. l.invariant.masks u y k b) (λ k. new c) u h g y;
      others = λ p g. get_or-set_other l.allow (a.c * 64 + l.x) p c.mask_at.result 0 (omega arith) ∙ l.invariant.others p g;
    }

pub loop-x-preserved : goal.loop-x-preserved
loop-x-preserved c = stepped (goal.at.loop-x-preserved c).After-mask_at

pub returns-2 : goal.returns-2
returns-2 c = let s = stepped (goal.at.returns-2 c).After-mask_at in (λ x y g h. s.masks x y g (omega arith), s.others)
