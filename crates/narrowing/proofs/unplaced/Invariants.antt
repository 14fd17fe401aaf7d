-- The invariant: each member may begin at any moment, and those before i end as from a on. Assumes nothing.
use Rattle.std.proofs.Common.{◌≡◌, ℕ, ◌<◌, ◌+◌, ◌*◌, length, get_or}
use Rattle.narrowing.specs.Code.Open.{choice_at}
use Rattle.narrowing.proofs.unplaced.Given as goal

abbrev pub invariant-loop-i : goal.invariant-loop-i
invariant-loop-i l = record {
  four : length l.members ≡ 4;
  begins : (j : ℕ) → j < 4 → (choice_at l.members j).begins ≡ l.begins;
  ends : (j : ℕ) → j < l.i → (choice_at l.members j).ends ≡ get_or l.tables.later (j * 64 + l.a) 0;
}
