-- Between functions: what is asked of a job and the tables of its actions, by the struct that lends them.
use Rattle.std.specs.Prelude.{List, ℕ}
use Rattle.history.specs.declared.carry.Held.{Held}
use Rattle.history.specs.declared.states.Actions.{Actions}
use Rattle.history.specs.Code.Tables.{Walkable}
use Rattle.history.specs.Code.Held.{Steppable}

abbrev pub WalkableBy : Actions → List ℕ → Type 0
WalkableBy a starts = Walkable a.job.now a.durations.now a.effects.now starts

abbrev pub SteppableBy : Actions → List ℕ → ℕ → Held → List ℕ → Type 0
SteppableBy a starting t held bytes = Steppable a.job.now a.durations.now a.effects.now starting t held.words held.count bytes
