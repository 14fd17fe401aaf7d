-- Between functions: the search for the begins of a set's members. bs and es are begins and ends of all members.
use Rattle.std.specs.Prelude.{ℕ, ◌≤◌, ◌<◌, ◌≡◌, ◌⊎◌, length, get_or}
use Rattle.words.specs.Fields.{condition_i, condition_j}
use Rattle.bitset.specs.Code.Members.{In}
use Rattle.covering.specs.Cover.{Covers}
use Rattle.covering.specs.Code.Cover.{entry_at}
use Rattle.keeping.specs.Code.Tables.{pair_at}
use Rattle.keeping.specs.declared.Tables.{Tables}
use Rattle.narrowing.specs.Code.Tables.{BoundsHave, InTables}
use Rattle.narrowing.specs.Code.Open.{InDomains}
use Rattle.narrowing.specs.declared.Open.{Open}
use Rattle.ending.specs.Code.Ends.{EndAt}
use Rattle.ending.specs.declared.Found.{Found}

-- begins and ends that are lawful from b to e, by the masks and the members' own rows
pub record Masked (t : Tables) (b e : ℕ) (bs es : ℕ → ℕ) : Type 0 where
  pub inside : (i : ℕ) → i < t.count → (b ≤ bs i) × (bs i ≤ es i) × (es i ≤ e)
  pub covers : Covers t.count bs es b e
  pub lawful : (i : ℕ) → i < t.count → EndAt t bs i (es i)

-- what a search needs: a member, conditions on members, moments of a word, and own rows with no end before the begin or after hi
pub record SearchReady (t : Tables) (lo hi : ℕ) : Type 0 where
  pub some : 0 < t.count
  pub named : (c : ℕ) → c < length t.conditions.now → (condition_i (get_or t.conditions.now c 0) < t.count) × (condition_j (get_or t.conditions.now c 0) < t.count)
  pub forward : lo ≤ hi
  pub moments : hi < 64
  pub onward : (i x e : ℕ) → i < t.count → lo ≤ x → x ≤ hi → In (pair_at t.ends i i x) e → (x ≤ e) × (e ≤ hi)

-- what a search needs of an open set: the members that it speaks of are members
pub record OpenReady (t : Tables) (o : Open) (hi : ℕ) : Type 0 where
  pub ready : SearchReady t o.from hi
  pub last : o.last < t.count
  pub left : (i : ℕ) → In o.left i → i < t.count

-- where all members are placed, and where member i is placed next
pub record LeafReady (t : Tables) (o : Open) (hi : ℕ) : Type 0 where
  pub state : OpenReady t o hi
  pub placed : o.left ≡ 0

pub record TryReady (t : Tables) (o : Open) (i hi : ℕ) : Type 0 where
  pub state : OpenReady t o hi
  pub next : In o.left i

-- the set reads b to e
pub record ReadsTo (t : Tables) (b e : ℕ) : Type 0 where
  pub bs : ℕ → ℕ
  pub es : ℕ → ℕ
  pub masked : Masked t b e bs es

-- the set reads b to e with the begins bs
pub record ReadsWith (t : Tables) (b e : ℕ) (bs : ℕ → ℕ) : Type 0 where
  pub es : ℕ → ℕ
  pub masked : Masked t b e bs es

-- where the end that is sought is found, there are begins for it
abbrev pub BeginsKept : Tables → ℕ → Found → Type 0
BeginsKept t b f = In f.ends f.upto → ReadsWith t b f.upto (entry_at f.begins)

-- what a search adds: ends to which the set reads from b
pub record Grown (t : Tables) (b : ℕ) (old new : Found) : Type 0 where
  pub upto : new.upto ≡ old.upto
  pub kept : (e : ℕ) → In old.ends e → In new.ends e
  pub reads : (e : ℕ) → In new.ends e → In old.ends e ⊎ ReadsTo t b e
  pub begins : BeginsKept t b old → BeginsKept t b new
  pub within : ((e : ℕ) → In old.ends e → e ≤ old.upto) → (e : ℕ) → In new.ends e → e ≤ new.upto
  pub moments : ((i : ℕ) → entry_at old.begins i < 64) → (i : ℕ) → entry_at new.begins i < 64

-- what a set whose members are all placed must find: the end of each placement by the masks that fits in it, whatever else the tables have
abbrev pub FindsFitting : Tables → Open → Found → Type 0
FindsFitting t o r = (e : ℕ) (bs es : ℕ → ℕ) → e ≤ r.upto → Masked t o.from e bs es → InDomains t.count o bs es → In r.ends e

-- a placement to e that an open set still has
pub record SoughtPlacement (t : Tables) (o : Open) (e : ℕ) (bs es : ℕ → ℕ) : Type 0 where
  pub masked : Masked t o.from e bs es
  pub tables : InTables t o.from bs es
  pub bounded : BoundsHave t.count t.bounds bs es
  pub fits : InDomains t.count o bs es
  pub final : es o.last ≡ e

-- what a search must find: each end of a placement that the open set still has
abbrev pub FindsAll : Tables → Open → Found → Type 0
FindsAll t o r = (e : ℕ) (bs es : ℕ → ℕ) → e ≤ r.upto → SoughtPlacement t o e bs es → In r.ends e
