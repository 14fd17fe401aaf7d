-- The invariant: r keeps the begin of each placement, and what is left are members of the set that are tied to member j. Assumes nothing.
use Rattle.std.proofs.Common.{ℕ, ◌+◌, ◌<◌, get_or}
use Rattle.bitset.specs.Code.Members.{In}
use Rattle.narrowing.specs.Code.Open.{choice_at}
use Rattle.narrowing.specs.Code.Tables.{BoundsHave}
use Rattle.narrowing.proofs.bounds.bounded.Given as goal

abbrev pub invariant-loop-w : goal.invariant-loop-w
invariant-loop-w l = record {
  tied : (w : ℕ) → In l.w-iterator.left w → (w < l.count) × In (get_or l.bounds (2048 + l.j) 0) w;
  kept : (bs es : ℕ → ℕ) → BoundsHave l.count l.bounds bs es → In (choice_at l.members l.j).begins (bs l.j) → ((i : ℕ) → i < l.count → In (choice_at l.members i).ends (es i)) → In l.r (bs l.j);
  fewer : (x : ℕ) → In l.r x → In (choice_at l.members l.j).begins x;
}
