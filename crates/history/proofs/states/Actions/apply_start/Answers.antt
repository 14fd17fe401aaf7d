-- `history::states::Actions::apply_start` meets its contract: by the tables it acts when its action does. Assumes nothing.
use mathlib.Core.Bool.{◌||◌}
use mathlib.Core.Path.{◌≡◌, sym, ap, ◌∙◌}
use Prim.Native.Nat.{ℕ}
use lib.Dec.{eqb}
use Rattle.job.specs.Parts.{fluents}
use Rattle.history.specs.Actions.{affects}
use Rattle.history.specs.Code.Passes.{acts, leaves}
use Rattle.history.proofs.Stores.{overlaid_skip}
use Rattle.history.proofs.Moments.{finish-tabled, start_applied}
use native.Mathlib.Omega.{arith}
use Rattle.history.proofs.states.Actions.apply_start.Goals as goal

pub returns-then-hiding-finish_of : goal.returns-then-hiding-finish_of
returns-then-hiding-finish_of c =
    let acts-here : let a = c.args in acts a.self.now.job.now a.hiding a.t a.s ≡ (a.hiding || eqb c.finish_of.result a.t) = let a = c.args in
    let p = c.requires.0 in
    ap (λ (end : ℕ). a.hiding || eqb end a.t) (sym (c.finish_of.ensures ∙ finish-tabled p.tables.durations a.s (p.named.action 0 (omega arith)))) in
    let a = c.args in
    let p = c.requires.0 in
    start_applied a.hiding a.t a.s p.tables.effects (p.named.action 0 (omega arith)) (acts-here ∙ c.if-hiding-finish_of.true)
    (rw (c.fluents_of.ensures.0, c.start_action.ensures.0) at c.apply.ensures)

pub returns-else-hiding-finish_of : goal.returns-else-hiding-finish_of
returns-else-hiding-finish_of c =
    let acts-here : let a = c.args in acts a.self.now.job.now a.hiding a.t a.s ≡ (a.hiding || eqb c.finish_of.result a.t) = let a = c.args in
    let p = c.requires.0 in
    ap (λ (end : ℕ). a.hiding || eqb end a.t) (sym (c.finish_of.ensures ∙ finish-tabled p.tables.durations a.s (p.named.action 0 (omega arith)))) in
    let a = c.args in
    overlaid_skip (fluents a.self.now.job.now) (acts a.self.now.job.now a.hiding a.t) (affects a.self.now.job.now) (leaves a.self.now.job.now a.hiding) a.s
    (acts-here ∙ c.if-hiding-finish_of.false)
