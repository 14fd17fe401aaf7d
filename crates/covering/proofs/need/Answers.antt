-- `covering::need` meets its contract. Assumes nothing.
use native.Mathlib.Omega.{arith}
use Rattle.covering.proofs.Needs.{reaches, bridges, needed_own, needed_both}
use Rattle.covering.proofs.need.Goals as goal

pub returns-then-b-x-clause-least : goal.returns-then-b-x-clause-least
returns-then-b-x-clause-least c = λ e l. let m = c.ends_before in
    needed_both c.if-b-x.true (reaches (c.in_ok-own.ensures.least e l)) (bridges m.result m.ensures (c.in_ok-bridge.ensures.least e l))
    (λ h. (omega arith, omega arith), λ s. let t = s.0 in let u = s.1 in omega arith)

pub returns-clause-least : goal.returns-clause-least
returns-clause-least c = λ e l. needed_own (λ g. omega (arith, c.if-b-x.false)) (reaches (c.in_ok-own.ensures.least e l))
