-- `search` places one of the members that are left, `tries` that member at each of its begins: the measures are 2 * left + 1 and 2 * left. The
-- loops' invariant: each placement that is sought is found, or has a member or a begin that is still to be tried. Assumes nothing.
use Prim.Native.Nat.{ℕ, ◌+◌, ◌*◌}
use Rattle.bitset.specs.Code.Members.{In, pop_count}
use Rattle.keeping.specs.declared.Tables.{Tables}
use Rattle.ending.specs.Code.Search.{Grown}
use Rattle.narrowing.specs.declared.Open.{Open}
use Rattle.ending.specs.declared.Found.{Found}
use Rattle.searching.proofs.Growth.{Untried, Begin, Over}
use Rattle.searching.proofs.+search_tries.Given as goal

abbrev pub decreases-search : goal.decreases-search
decreases-search l = pop_count l.state.left * 2 + 1

abbrev pub decreases-tries : goal.decreases-tries
decreases-tries l = pop_count l.state.left * 2

-- each placement that is sought is found, or has a member of `rest` over the gaps
pub record Gapped (t : Tables) (state : Open) (g h : ℕ) (old r : Found) (rest : ℕ) : Type 0 where
  pub grown : Grown t state.from old r
  pub untried : Untried t state r (Over rest g h)
  pub left : (i : ℕ) → In rest i → In state.left i

abbrev pub invariant-search-loop-rest : goal.invariant-search-loop-rest
invariant-search-loop-rest l = Gapped l.tables l.state l.g l.h l.initial.r l.r l.rest

abbrev pub decreases-search-loop-rest : goal.decreases-search-loop-rest
decreases-search-loop-rest l = pop_count l.rest

abbrev pub invariant-tries-loop-x : goal.invariant-tries-loop-x
invariant-tries-loop-x l =
    Grown l.tables l.state.from l.initial.r l.r × Untried l.tables l.state l.r (Begin l.x-iterator.left l.i)
