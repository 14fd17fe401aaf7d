-- The words after the last one that is not above `w` are above it, and those up to it are not, since the list ascends. Assumes nothing.
use Rattle.std.proofs.Common.{rules, ◌≡◌, ◌+◌, ◌<◌, ◌≤◌, length, ℕ, List, slice_index_or}
use Rattle.std.specs.Prelude.{Option, Some, None, MatchOption}
use mathlib.Core.Bool.{not}
use mathlib.Core.Logic.{by_cases}
use mathlib.Core.Path.{ap}
use native.Mathlib.Decide.{dec_lt}
use native.Mathlib.Omega.{arith}
use borrow.Author.Tests.{lt-ltb, le-ltb}
use Rattle.words.specs.Scan.{take_while}
use Rattle.words.specs.Lists.{Pairs}
use Rattle.words.specs.Code.Place.{not_above}
use Rattle.words.proofs.Lists.{pairs-at}
use Rattle.words.proofs.Scan.{lead_count}
use Rattle.words.proofs.buffers.place_of.Goals as goal

module _ (list : List ℕ) (w : ℕ) where
  -- the words from a place on are above w
  abbrev Above : ℕ → Type 0
  Above n = (k : ℕ) → n ≤ k → k < length list → w < slice_index_or list k 0

  abbrev Placed : ℕ → Type 0
  Placed n = (n ≡ length (take_while (not_above w) list)) × (n ≤ length list)

  placed : (n : ℕ) → n ≤ length list → Above n → ((k : ℕ) → k < n → slice_index_or list k 0 ≤ w) → Placed n
  placed n inside above below = (
    lead_count (not_above w) list n inside (λ k l. ap not (le-ltb w (slice_index_or list k 0) (below k l))) (λ l. ap not (lt-ltb w (slice_index_or list n 0) (above n (omega arith) l))),
    inside,
  )

  place : Pairs (λ s s'. s < s') list → (last : Option ℕ) (n : ℕ) → MatchOption last (Above 0) (λ i. (i < length list) × (slice_index_or list i 0 ≤ w) × Above (i + 1))
      → MatchOption last (n ≡ 0) (λ i. n ≡ i + 1) → Placed n
  place ascends None n above e = rw e (placed 0 (omega arith) above (λ k l. absurd (omega arith)))
  place ascends (Some i) n (inside, here, above) e =
      rw e (placed (i + 1) (omega arith) above
      (λ k l. by_cases (dec_lt k i) (λ m. omega (arith, pairs-at ascends i k m inside, here)) (λ m. let same : k ≡ i = omega arith in rw same here)))

pub returns : goal.returns
returns c = place c.args.list.now c.args.w c.requires c.rposition.result c.map_or.result (search rules) (search rules)
