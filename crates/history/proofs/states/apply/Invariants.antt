-- `history::states::apply` meets its contract. The invariant: the bytes below `f` are made. Assumes nothing.
use Rattle.history.specs.Code.Stores.{Mapped}
use Rattle.history.specs.Code.Passes.{changed_by}
use Rattle.history.proofs.states.apply.Given as goal

abbrev pub invariant-loop-f : goal.invariant-loop-f
invariant-loop-f l = Mapped l.f (changed_by l.effects l.a l.hiding) l.initial.state l.state
