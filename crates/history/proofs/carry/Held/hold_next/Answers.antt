-- `history::carry::Held::hold_next` meets its contract: the starts that do not finish are kept, and those that begin are written behind them.
-- Assumes nothing.
use mathlib.Core.Bool.{Bool}
use mathlib.Core.List.{List}
use mathlib.Core.Path.{◌≡◌}
use Prim.Native.Nat.{ℕ, ◌+◌, ◌≤◌}
use native.Mathlib.Omega.{arith}
use lib.ListN.{length}
use Rattle.history.specs.Code.Held.{Filtered}
use Rattle.history.proofs.Carried.{list_next}
use Rattle.history.proofs.carry.Held.hold_next.Goals as goal

-- there is room behind those that are kept
room-left : {test : ℕ → Bool} {count : ℕ} {held : List ℕ} {n : ℕ} {kept : List ℕ} (more : ℕ) → Filtered test count held n kept → length kept ≡ length held
    → count + more ≤ length held → n + more ≤ length kept
room-left more f same room = omega (arith, f.few, same, room)

pub returns-clause-list : goal.returns-clause-list
returns-clause-list c =
    let room = room-left _ c.keep_unfinished-kept.ensures c.keep_unfinished-kept.auto.held c.requires.2 in
    record {
      next =
          λ job starts timed lasting ascends begin list.
          rw c.copy_words.ensures (list_next c.args.durations.now timed lasting ascends list c.keep_unfinished-kept.ensures begin room);
    }
