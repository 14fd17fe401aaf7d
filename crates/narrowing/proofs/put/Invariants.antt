-- The invariant: begins and ends that the set had, with member i begun at x, it has after the members before j are narrowed. Assumes nothing.
use Rattle.std.proofs.Common.{◌≡◌, ℕ, List, length}
use Rattle.keeping.specs.declared.Choice.{Choice}
use Rattle.keeping.specs.declared.Tables.{Tables}
use Rattle.narrowing.specs.Code.Tables.{InTables}
use Rattle.narrowing.proofs.Narrowing.{Has, Ordered}
use Rattle.narrowing.proofs.put.Given as goal

-- what the set had with member i begun at x, it has after some members are narrowed
pub record Narrowing (t : Tables) (i x from last left : ℕ) (old : List Choice) (sought₀ : ℕ) (members : List Choice) (sought : ℕ) : Type 0 where
  pub four : length members ≡ 4
  pub kept : (bs es : ℕ → ℕ) → InTables t from bs es → Ordered t.count from last bs es → bs i ≡ x → Has t.count old left last sought₀ bs es → Has t.count members left last sought bs es

abbrev pub invariant-loop-j : goal.invariant-loop-j
invariant-loop-j l = Narrowing l.tables l.i l.x l.state.from l.state.last l.left l.initial.members l.initial.sought l.members l.sought
