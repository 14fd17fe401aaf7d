-- Between functions: how the tables of a set are filled, and what they say. bs and es are begins and ends of all members.
use Rattle.std.specs.Prelude.{ℕ, ◌+◌, ◌*◌, ◌≤◌, ◌<◌, ◌≡◌, List, length, get_or}
use Rattle.bitset.specs.Code.Members.{In}
use Rattle.words.specs.Fields.{member_node}
use Rattle.model.specs.Code.Table.{InTable}
use Rattle.keeping.specs.Code.Tables.{pair_at}
use Rattle.keeping.specs.declared.Tables.{Tables}
use Rattle.narrowing.specs.Code.Tables.{EndsHave, GoesHave, BoundsHave, InTables}
use Rattle.ending.specs.Code.Search.{Masked, SearchReady}
use Rattle.sets.specs.Set.{TaskSet, member_count}
use Rattle.sets.specs.Code.Set.{member, Formed}
use Rattle.sets.specs.Code.Rows.{Placed}

-- ends of i where j begins, and begins of j where i begins, as the tables have them
pub record Have (E G : List ℕ) (count : ℕ) (bs es : ℕ → ℕ) : Type 0 where
  pub ends : EndsHave count E bs es
  pub goes : GoesHave count G bs

-- the masks `new` have no members that the masks `old` have not
abbrev pub Fewer : List ℕ → List ℕ → Type 0
Fewer old new = (p e : ℕ) → In (get_or new p 0) e → In (get_or old p 0) e

-- row p of the table `old` is cut, from a to z, by the masks of condition c: what they have there, and all else, is in `new`
abbrev pub Cut : List ℕ → ℕ → List ℕ → ℕ → ℕ → ℕ → List ℕ → Type 0
Cut old p allow c a z new =
    (q e : ℕ) → In (get_or old q 0) e → ((y : ℕ) → q ≡ p * 64 + y → a ≤ y → y ≤ z → In (get_or allow (c * 64 + y) 0) e) → In (get_or new q 0) e

-- begins and ends within a..z
abbrev pub InSpan : ℕ → ℕ → ℕ → (ℕ → ℕ) → (ℕ → ℕ) → Type 0
InSpan count a z bs es = (i : ℕ) → i < count → (a ≤ bs i) × (bs i ≤ es i) × (es i ≤ z)

-- E' and G' are what is left of the tables E and G: no end more, and all that these have of begins and ends within a..z
pub record LeftOut (count a z : ℕ) (E G E' G' : List ℕ) : Type 0 where
  pub fewer : Fewer E E'
  pub kept : (bs es : ℕ → ℕ) → InSpan count a z bs es → Have E G count bs es → Have E' G' count bs es

-- a table before anything is left out of it
abbrev pub Unpruned : List ℕ → Type 0
Unpruned t = (p e : ℕ) → p < 1024 → e < 64 → In (get_or t p 0) e

-- the own row of member i, from a to before x, has ends that R has, not before the begin nor after z; the rows of members before i are as they
-- were, and what a placement has is in the table
pub record OwnRow (R : ℕ → ℕ → Type 0) (goes : List ℕ) (i a z : ℕ) (old new : List ℕ) (x : ℕ) : Type 0 where
  pub own : (y e : ℕ) → a ≤ y → y < x → In (pair_at new i i y) e → R y e × (y ≤ e) × (e ≤ z)
  pub others : (q : ℕ) → q < (i * 4 + i) * 64 → get_or new q 0 ≡ get_or old q 0
  pub kept : (count : ℕ) (bs es : ℕ → ℕ) → i < count → count ≤ 4 → InSpan count a z bs es → R (bs i) (es i) → GoesHave count goes bs → EndsHave count old bs es → EndsHave count new bs es

-- the own rows of the first k members, from a to z, have ends that the table has, not before the begin nor after z; what a placement has is in them
pub record OwnRows (members table goes : List ℕ) (a z : ℕ) (old new : List ℕ) (k : ℕ) : Type 0 where
  pub own : (i x e : ℕ) → i < k → a ≤ x → x ≤ z → In (pair_at new i i x) e → InTable table (member_node (get_or members i 0)) x e × (x ≤ e) × (e ≤ z)
  pub kept : (bs es : ℕ → ℕ) → InSpan (length members) a z bs es → ((i : ℕ) → i < length members → InTable table (member_node (get_or members i 0)) (bs i) (es i))
      → GoesHave (length members) goes bs → EndsHave (length members) old bs es → EndsHave (length members) new bs es

-- tables of these conditions and so many members, that nothing is left out of, with no bounds
pub record UnprunedTables (cs : List ℕ) (members : ℕ) (t : Tables) : Type 0 where
  pub conditions : t.conditions.now ≡ cs
  pub count : t.count ≡ members
  pub ends : Unpruned t.ends
  pub goes : Unpruned t.goes
  pub bounds : (q : ℕ) → get_or t.bounds q 0 ≡ 0

-- the conditions, the number of members and the masks are as they were
pub record SameMasks (old new : Tables) : Type 0 where
  pub conditions : new.conditions ≡ old.conditions
  pub count : new.count ≡ old.count
  pub allow : new.allow ≡ old.allow

-- but for the ends of i where j begins, and the begins of j where i begins, the tables are as they were
pub record SameElse (old new : Tables) : Type 0 where
  pub masks : SameMasks old new
  pub later : new.later ≡ old.later
  pub bounds : new.bounds ≡ old.bounds

-- the tables `new` have the ends of i begun at a moment of a..z or later, and are the tables `old` in all else
pub record LaterFilled (old new : Tables) (a z : ℕ) : Type 0 where
  pub after : (i x y e : ℕ) → i < old.count → a ≤ x → x ≤ y → y ≤ z → In (pair_at old.ends i i y) e → In (get_or new.later (i * 64 + x) 0) e
  pub masks : SameMasks old new
  pub ends : new.ends ≡ old.ends
  pub goes : new.goes ≡ old.goes
  pub bounds : new.bounds ≡ old.bounds

-- the tables `new` have bounds that leave out no placement within a..z, and are the tables `old` in all else
pub record BoundsFilled (old new : Tables) (a z : ℕ) : Type 0 where
  pub bounded : (bs es : ℕ → ℕ) → InSpan old.count a z bs es → EndsHave old.count old.ends bs es → BoundsHave old.count new.bounds bs es
  pub masks : SameMasks old new
  pub ends : new.ends ≡ old.ends
  pub goes : new.goes ≡ old.goes
  pub later : new.later ≡ old.later

-- what filling the tables of a set needs
pub record TablesReady (s : TaskSet) (table : List ℕ) (t : Tables) : Type 0 where
  pub formed : Formed s
  pub rows : (i : ℕ) → i < member_count s → member s i * 64 + 64 ≤ length table
  pub unpruned : UnprunedTables s.conditions (member_count s) t

-- what the tables of a set for the moments a..z say: by the masks and own rows the set reads as it does by R, and they have the begins and
-- ends of each placement
pub record TablesOf (s : TaskSet) (R : ℕ → ℕ → ℕ → Type 0) (a z : ℕ) (t : Tables) : Type 0 where
  pub count : t.count ≡ member_count s
  pub ready : SearchReady t a z
  pub reads : (b e : ℕ) (bs es : ℕ → ℕ) → a ≤ b → e ≤ z → Masked t b e bs es → Placed s R b e bs es
  pub masked : (b e : ℕ) (bs es : ℕ → ℕ) → a ≤ b → e ≤ z → Placed s R b e bs es → Masked t b e bs es
  pub kept : (b e : ℕ) (bs es : ℕ → ℕ) → a ≤ b → e ≤ z → Placed s R b e bs es → InTables t a bs es
  pub bounded : (b e : ℕ) (bs es : ℕ → ℕ) → a ≤ b → e ≤ z → Placed s R b e bs es → BoundsHave t.count t.bounds bs es
