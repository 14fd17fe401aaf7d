-- Between functions: when ends can be chosen that cover b..e: the begins bs are fixed, and member i may end at the members of the mask Es
-- i.
use Rattle.std.specs.Prelude.{ℕ, ◌-◌, ◌≤◌, ◌<◌, ◌≡◌, List, get_or}
use Rattle.bitset.specs.Code.Members.{In}
use Rattle.covering.specs.Cover.{Covers}

-- an array as a function of its places
abbrev pub entry_at : List ℕ → ℕ → ℕ
entry_at l i = get_or l i 0

-- member c can end, at most at e, at x or later
pub record Reaches (Es : ℕ → ℕ) (c x e : ℕ) : Type 0 where
  pub end : ℕ
  pub member : In (Es c) end
  pub late : x ≤ end
  pub upto : end ≤ e

-- some i below k is P
pub record SomeBelow (k : ℕ) (P : ℕ → Type 0) : Type 0 where
  pub at : ℕ
  pub below : at < k
  pub is : P at

-- some member that begins before x reaches x - 1
abbrev pub Bridged : ℕ → (ℕ → ℕ) → (ℕ → ℕ) → ℕ → ℕ → Type 0
Bridged count bs Es x e = SomeBelow count (λ c. (bs c < x) × Reaches Es c (x - 1) e)

-- what member i asks of e
pub record Needed (count : ℕ) (bs Es : ℕ → ℕ) (b i e : ℕ) : Type 0 where
  pub each : Reaches Es i 0 e
  pub bridged : b < bs i → Bridged count bs Es (bs i) e

pub record Coverable (count : ℕ) (bs Es : ℕ → ℕ) (b e : ℕ) : Type 0 where
  pub last : SomeBelow count (λ i. In (Es i) e)
  pub first : SomeBelow count (λ i. bs i ≡ b)
  pub needs : (i : ℕ) → i < count → Needed count bs Es b i e

-- what working them out needs: moments
pub record CoverReady (count : ℕ) (bs Es : ℕ → ℕ) : Type 0 where
  pub few : count ≤ 4
  pub begins : (i : ℕ) → i < count → bs i < 64
  pub ends : (i e : ℕ) → i < count → In (Es i) e → e < 64

-- ends out of the masks that cover b..e
pub record Covering (count : ℕ) (bs Es : ℕ → ℕ) (b e : ℕ) (es : ℕ → ℕ) : Type 0 where
  pub chosen : (i : ℕ) → i < count → (In (Es i) (es i)) × (es i ≤ e)
  pub covers : Covers count bs es b e
