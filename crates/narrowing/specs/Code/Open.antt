-- Between functions: open sets, of which some members are placed. bs and es are begins and ends of all members.
use Rattle.std.specs.Prelude.{ℕ, ◌≤◌, ◌<◌, ◌≡◌, List, get_or}
use Rattle.bitset.specs.Code.Members.{In}
use Rattle.keeping.specs.declared.Choice.{Choice}
use Rattle.narrowing.specs.declared.Open.{Open}

-- the begins and ends that member i may have
abbrev pub choice_at : List Choice → ℕ → Choice
choice_at l i = get_or l i (record { begins = 0; ends = 0 })

-- what a set needs before any member is placed: `last`, which ends last, is a member
pub record UnplacedReady (count last lo hi : ℕ) : Type 0 where
  pub member : last < count
  pub forward : lo ≤ hi
  pub moments : hi < 64

-- what placing member i at x needs
pub record PutReady (count : ℕ) (o : Open) (i x : ℕ) : Type 0 where
  pub member : i < count
  pub moment : x < 64
  pub last : o.last < count
  pub from : o.from < 64

-- begins and ends that an open set still has: members that are not left have one begin, and none ends after the one that ends last
pub record InDomains (count : ℕ) (o : Open) (bs es : ℕ → ℕ) : Type 0 where
  pub inside : (i : ℕ) → i < count → (o.from ≤ bs i) × (bs i ≤ es i) × (es i ≤ es o.last)
  pub begins : (i : ℕ) → i < count → In (choice_at o.members i).begins (bs i)
  pub ends : (i : ℕ) → i < count → In (choice_at o.members i).ends (es i)
  pub fixed : (i x : ℕ) → i < count → (In o.left i → ⊥) → In (choice_at o.members i).begins x → x ≡ bs i
