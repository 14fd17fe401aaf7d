-- Between functions: the masks of a set's conditions, and the ends that they leave to members whose begins are fixed.
use Rattle.std.specs.Prelude.{ℕ, ◌+◌, ◌*◌, ◌<◌, ◌≡◌, ◌↔◌, List, length, get_or}
use Rattle.bitset.specs.Code.Members.{In}
use Rattle.words.specs.Fields.{condition_i, condition_j}
use Rattle.model.specs.Forms.{ConditionForm, BeginAfterBegin, BeginAfterEnd, HoldsBefore, HoldsAfter, HoldsBetween, ReservedCondition, condition_form}
use Rattle.covering.specs.Code.Cover.{entry_at}
use Rattle.keeping.specs.Code.Tables.{pair_at}
use Rattle.keeping.specs.declared.Tables.{Tables}

-- a condition asks of member i either its begin or its end: the one that it asks
abbrev pub asked : ConditionForm → ℕ → ℕ → ℕ
asked BeginAfterBegin x e = x
asked BeginAfterEnd x e = e
asked HoldsBefore x e = x
asked HoldsAfter x e = e
asked HoldsBetween x e = e
asked ReservedCondition x e = e

-- the member whose begin a condition asks beside member i: j, or i itself where it asks nothing of j
abbrev pub partner : ConditionForm → ℕ → ℕ → ℕ
partner BeginAfterBegin i j = j
partner BeginAfterEnd i j = j
partner HoldsBefore i j = i
partner HoldsAfter i j = i
partner HoldsBetween i j = j
partner ReservedCondition i j = j

abbrev pub partner_of : ℕ → ℕ
partner_of w = partner (condition_form w) (condition_i w) (condition_j w)

-- condition c, of word w, is met by its mask, where its member i ends at e
abbrev pub MetAtMask : ℕ → List ℕ → (ℕ → ℕ) → ℕ → ℕ → Type 0
MetAtMask w allow bs c e = In (get_or allow (c * 64 + bs (partner_of w)) 0) (asked (condition_form w) (bs (condition_i w)) e)

abbrev pub MetByMask : List ℕ → List ℕ → (ℕ → ℕ) → ℕ → ℕ → Type 0
MetByMask cs allow bs c e = MetAtMask (get_or cs c 0) allow bs c e

-- e is an end of member i that its own row and the conditions on it have
pub record EndAt (t : Tables) (bs : ℕ → ℕ) (i e : ℕ) : Type 0 where
  pub reads : In (pair_at t.ends i i (bs i)) e
  pub met : (c : ℕ) → c < length t.conditions.now → condition_i (get_or t.conditions.now c 0) ≡ i → MetByMask t.conditions.now t.allow bs c e

-- what the conditions need of the begins and masks of the members
pub record Narrowable (begins ends : List ℕ) : Type 0 where
  pub moments : (i : ℕ) → entry_at begins i < 64
  pub small : (i e : ℕ) → In (entry_at ends i) e → e < 64

-- the masks `new` are the masks `old` with the first c conditions
pub record Narrowed (t : Tables) (begins old : List ℕ) (c : ℕ) (new : List ℕ) : Type 0 where
  pub mask : (i e : ℕ) → In (entry_at new i) e ↔ (In (entry_at old i) e × ((d : ℕ) → d < c → condition_i (get_or t.conditions.now d 0) ≡ i → MetByMask t.conditions.now t.allow (entry_at begins) d e))
