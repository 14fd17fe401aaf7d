-- `job::job_end::name_refusal` meets its contract: the set holds the nodes that are named exactly once. Assumes nothing.
use mathlib.Core.Path.{◌≡◌, sym, ◌∙◌}
use Prim.Native.Nat.{ℕ}
use native.Mathlib.Omega.{arith}
use Rattle.answers.proofs.Rows.{first_start, first_more, first_found}
use Rattle.job.proofs.Naming.{once_set, name_told}
use Rattle.job.proofs.job_end.name_refusal.Goals as goal

five-ne : ◌≡◌ {A = ℕ} 5 0 → ⊥
five-ne e = omega arith

pub loop-v-init : goal.loop-v-init
loop-v-init c p h = first_start _

pub returns-then-not-has : goal.returns-then-not-has
returns-then-not-has c p h =
    let once = once_set p _ h c.minus-once.ensures in
    let five = name_told p _ once _ (sym c.has.ensures ∙ c.if-not-has.true) in
    rw (
      c.refuse.ensures,
      rw five at (first_found _ _ c.args.root (c.loop-v.invariant p once) (λ z. five-ne (sym five ∙ z)) c.loop-v-test.true),
    )

pub loop-v-preserved : goal.loop-v-preserved
loop-v-preserved c p once = first_more _ _ (c.loop-v.invariant p once) (name_told p _ once _ (sym c.has.ensures ∙ c.if-not-has.false))
