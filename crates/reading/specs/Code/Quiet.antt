-- Between functions: quiet pauses by the set of the moments at which some action starts.
use Rattle.std.specs.Prelude.{ℕ, ◌+◌, ◌<◌, ◌≤◌, Bool, true, false, ◌≡◌, ◌↔◌, List, get_or}
use Rattle.bitset.specs.Code.Members.{has, In}
use Rattle.words.specs.Fields.{node_m, node_n}
use Rattle.reading.specs.declared.pauses.Pause.{Pause}

-- action a starts at t, by the sets of each action's start moments
abbrev pub start_in : List ℕ → ℕ → ℕ → Bool
start_in starts a t = has (get_or starts a 0) t

-- the members of `started` are the moments at which some action starts
pub record AllStarts (starts : ℕ → ℕ → Bool) (started : ℕ) : Type 0 where
  pub at : (t : ℕ) → In started t ↔ ((a : ℕ) × (starts a t ≡ true))

-- no member of `started` lies at k ≤ t < m
abbrev pub QuietIn : ℕ → ℕ → ℕ → Type 0
QuietIn started k m = (t : ℕ) → k ≤ t → t < m → has started t ≡ false

-- r is the latest moment to which a pause from k on may last: it is no longer than `most`, and quiet
pub record QuietUpto (pause : Pause) (k r : ℕ) : Type 0 where
  pub at : (m : ℕ) → (m ≤ r) ↔ ((m ≤ k + pause.most) × QuietIn pause.started k m)

-- the pause that an end window of this word asks for
abbrev pub pause_of : ℕ → ℕ → Pause
pause_of w started = record { least = node_m w; most = node_n w; started = started }

-- what follows begins at once
abbrev pub at_once : Pause
at_once = record { least = 0; most = 0; started = 0 }
