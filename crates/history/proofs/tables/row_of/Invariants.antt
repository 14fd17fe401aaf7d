-- `history::tables::row_of` meets its contract. The invariant: once the words that are left are stored too, all are. Assumes nothing.
use mathlib.Core.Bool.{Bool}
use mathlib.Core.List.{List}
use mathlib.Core.Path.{◌≡◌}
use Prim.Native.Nat.{ℕ, ◌^◌, ◌<◌}
use lib.ListN.{length, get_or}
use Rattle.history.specs.Code.Stores.{Reads, Overlaid}
use Rattle.history.proofs.tables.row_of.Given as goal

abbrev pub invariant-loop-w : goal.invariant-loop-w
invariant-loop-w g l = record {
  size : length l.row ≡ 256;
  fits : (k : ℕ) → get_or l.w-iterator.iter.rest.now k 0 < 2 ^ 32;
  left :
      (test : ℕ → ℕ → Bool) (gives : ℕ → ℕ → ℕ) → ((w : ℕ) (r : _) → w < 2 ^ 32 → goal.F-post g l.given w r → Reads test gives w r) → (new : List ℕ)
      → Overlaid 256 test gives l.row l.w-iterator.iter.rest.now new → Overlaid 256 test gives l.initial.row l.words new;
}
