-- `extract::parts::placed_parts` meets its contract. The loop's invariant: the members passed are placed. Assumes nothing.
use Prim.Native.Nat.{ℕ, ◌<◌}
use mathlib.Core.Path.{◌≡◌}
use lib.ListN.{length, get_or}
use Rattle.words.specs.Fields.{member_node}
use Rattle.extract.specs.Code.Parts.{triple_of}
use Rattle.extract.proofs.parts.placed_parts.Given as goal

abbrev pub invariant-loop-i : goal.invariant-loop-i
invariant-loop-i l =
    (length l.triples ≡ 4)
    × ((j : ℕ) → j < l.i → get_or l.triples j (triple_of 0 0 0) ≡ triple_of (member_node (get_or l.members j 0)) (get_or l.placed.begins j 0) (get_or l.placed.ends j 0))
