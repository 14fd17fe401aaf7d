-- The starts in hand, and how those of a moment come from those of the moment before.
use Rattle.std.specs.Prelude.{Bool, ◌↔◌, ◌≡◌, ℕ, suc, ◌+◌, ◌≤◌, ◌<◌, eqb, ltb, length, get_or, take}
use mathlib.Core.List.{List, ◌++◌, Memᴰ}
use Rattle.words.specs.Fields.{start_moment, start_action}
use Rattle.words.specs.Lists.{Each, Pairs}
use Rattle.words.specs.Scan.{filter}
use Rattle.job.specs.Parts.{duration}
use Rattle.history.specs.Actions.{finish, in_hand}

-- the starts in hand (in execution) at moment t, in their order
abbrev pub held_at : List ℕ → List ℕ → ℕ → List ℕ
held_at job starts t = filter (in_hand job t) starts

-- a start begins at moment t; the starts that do
abbrev pub begins_at : ℕ → ℕ → Bool
begins_at t s = eqb (start_moment s) t

abbrev pub starting_at : List ℕ → ℕ → List ℕ
starting_at starts t = filter (begins_at t) starts

-- a start finishes after moment t
abbrev pub unfinished : List ℕ → ℕ → ℕ → Bool
unfinished job t s = ltb t (finish job s)

-- each start lasts; their moments ascend
abbrev pub Lasting : List ℕ → List ℕ → Type 0
Lasting job starts = Each (λ s. 0 < duration job (start_action s)) starts

abbrev pub Ascending : List ℕ → Type 0
Ascending starts = Pairs (λ s s'. start_moment s ≤ start_moment s') starts

-- a table, by action, has the duration of each start
abbrev pub TimedBy : List ℕ → List ℕ → List ℕ → Type 0
TimedBy job durations starts = Each (λ s. get_or durations (start_action s) 0 ≡ duration job (start_action s)) starts

-- a list in which the code carries the starts in hand: its first `count` words are exactly the starts in hand at moment t, in their order
pub record HeldList (job starts : List ℕ) (t : ℕ) (list : List ℕ) (count : ℕ) : Type 0 where
  pub inside : count ≤ length list
  pub words : take count list ≡ held_at job starts t

-- the list is carried to the next moment, at which the starts in `starting` begin
pub record HoldsNext (durations starting : List ℕ) (t : ℕ) (held : List ℕ) (count : ℕ) (new : List ℕ) (all : ℕ) : Type 0 where
  pub next :
      (job starts : List ℕ) → TimedBy job durations starts → Lasting job starts → Ascending starts → starting ≡ starting_at starts (t + 1)
      → HeldList job starts t held count → HeldList job starts (t + 1) new all

-- at each moment t, exactly the starts with u ≤ t < u + d are in hand; at moment 0 they are those that begin then, and at each next moment
-- those in hand that have not finished, and then those that begin. `held_exactly`, `held_start`, `held_next` (proofs/Held.antt) show it.
abbrev pub HeldExactly : Type 0
HeldExactly =
    (job starts : List ℕ) (t s : ℕ) → Memᴰ s (held_at job starts t) ↔ (Memᴰ s starts × ((start_moment s ≤ t) × (t < finish job s)))

abbrev pub HeldStart : Type 0
HeldStart = (job starts : List ℕ) → Lasting job starts → held_at job starts 0 ≡ starting_at starts 0

abbrev pub HeldNext : Type 0
HeldNext =
    (job starts : List ℕ) (t : ℕ) → Lasting job starts → Ascending starts
    → held_at job starts (suc t) ≡ filter (unfinished job (suc t)) (held_at job starts t) ++ starting_at starts (suc t)
