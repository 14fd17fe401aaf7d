-- Between functions: tables of begins and ends by pairs of members. bs and es are begins and ends of all members.
-- Of the tables a search needs one direction only: what a placement has is in them.
use Rattle.std.specs.Prelude.{ℕ, ◌+◌, ◌*◌, ◌≤◌, ◌<◌, List, get_or}
use Rattle.bitset.specs.Code.Members.{In}
use Rattle.keeping.specs.Code.Tables.{pair_at}
use Rattle.keeping.specs.declared.Tables.{Tables}

-- ends of i where j begins, as the tables have them
abbrev pub EndsHave : ℕ → List ℕ → (ℕ → ℕ) → (ℕ → ℕ) → Type 0
EndsHave count ends bs es = (i j : ℕ) → i < count → j < count → In (pair_at ends i j (bs j)) (es i)

-- begins of j where i begins
abbrev pub GoesHave : ℕ → List ℕ → (ℕ → ℕ) → Type 0
GoesHave count goes bs = (i j : ℕ) → i < count → j < count → In (pair_at goes i j (bs i)) (bs j)

-- ends of i begun at x or later, for each moment x from lo to the begin of i
abbrev pub LaterHave : ℕ → List ℕ → ℕ → (ℕ → ℕ) → (ℕ → ℕ) → Type 0
LaterHave count later lo bs es = (i x : ℕ) → i < count → lo ≤ x → x ≤ bs i → In (get_or later (i * 64 + x) 0) (es i)

-- the bounds: at (w * 4 + j) * 64 + e begins of j with which w may end at e or later, 1024 further those with which it may end at e or sooner;
-- at 2048 + j the members w for which they are filled
abbrev pub BoundsHave : ℕ → List ℕ → (ℕ → ℕ) → (ℕ → ℕ) → Type 0
BoundsHave count bounds bs es = (w j : ℕ) → w < count → j < count → In (get_or bounds (2048 + j) 0) w
    → ((e : ℕ) → e ≤ es w → In (get_or bounds ((w * 4 + j) * 64 + e) 0) (bs j)) × ((e : ℕ) → es w ≤ e → e < 64 → In (get_or bounds (1024 + (w * 4 + j) * 64 + e) 0) (bs j))

-- it stands at every end up to e, and at every end from e on
pub record Bounded (bounds : List ℕ) (p y e : ℕ) : Type 0 where
  pub late : (d : ℕ) → d ≤ e → In (get_or bounds (p * 64 + d) 0) y
  pub soon : (d : ℕ) → e ≤ d → d < 64 → In (get_or bounds (1024 + p * 64 + d) 0) y

-- the tables have these begins and ends: ends of i where j begins, begins of j where i begins, ends of i begun at x or later
pub record InTables (t : Tables) (lo : ℕ) (bs es : ℕ → ℕ) : Type 0 where
  pub ends : EndsHave t.count t.ends bs es
  pub goes : GoesHave t.count t.goes bs
  pub later : LaterHave t.count t.later lo bs es
