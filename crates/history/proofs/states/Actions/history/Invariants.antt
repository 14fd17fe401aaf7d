-- `history::states::Actions::history` meets its contract. The invariant: the state and the held list are those of moment `t`, the first `next` starts
-- are those up to `t`, and the rows of the moments up to `t` are stored. Assumes nothing.
use mathlib.Core.List.{List}
use Prim.Native.Nat.{ℕ, ◌+◌}
use Rattle.job.specs.Parts.{fluents}
use Rattle.history.specs.Values.{value_at}
use Rattle.history.specs.Code.Held.{Carried}
use Rattle.history.proofs.HeldList.{Begun}
use Rattle.history.proofs.Stores.{Rows}
use Rattle.history.proofs.states.Actions.history.Given as goal

pub record Walked (job starts : List ℕ) (t next : ℕ) (state held : List ℕ) (count : ℕ) (table : List ℕ) : Type 0 where
  pub carried : Carried job starts t held count state
  pub begun : Begun starts (t + 1) next
  pub stored : Rows (value_at job starts) (fluents job) (t + 1) table

abbrev pub invariant-loop-t : goal.invariant-loop-t
invariant-loop-t l = Walked l.self.job.now l.starts l.t l.next l.state l.held.words l.held.count l.table
