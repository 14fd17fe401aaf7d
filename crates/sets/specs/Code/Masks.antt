-- Between functions: the masks of moments that the conditions of a set allow.
use Rattle.std.specs.Prelude.{Bool, true, ℕ, ◌+◌, ◌*◌, ◌≤◌, ◌<◌, ◌≡◌, ◌↔◌, List, get_or}
use Rattle.bitset.specs.Code.Members.{In}
use Rattle.words.specs.Fields.{holds}
use Rattle.model.specs.Forms.{ConditionForm, BeginAfterBegin, BeginAfterEnd, HoldsBefore, HoldsAfter, HoldsBetween, ReservedCondition}
use Rattle.sets.specs.Set.{MetAs, MetAt}

-- the mask has, of the moments from a to z, those at which the test says yes
pub record Picked (a z : ℕ) (says : ℕ → Bool → Type 0) (mask : ℕ) : Type 0 where
  pub inside : (t : ℕ) → In mask t → (a ≤ t) × (t ≤ z)
  pub told : (t : ℕ) → a ≤ t → t ≤ z → (r : Bool) × says t r × ((r ≡ true) ↔ In mask t)

-- the moments at which a condition of form f, with N, can ask for its formula, where it asks of moments of a..z
abbrev pub Seen : ConditionForm → ℕ → ℕ → ℕ → ℕ → ℕ → Type 0
Seen BeginAfterBegin n N a z t = ⊥
Seen BeginAfterEnd n N a z t = ⊥
Seen HoldsBefore n N a z t = (a ≤ t + N) × (t ≤ z)
Seen HoldsAfter n N a z t = (a ≤ t) × (t ≤ z + N) × (t ≤ n)
Seen HoldsBetween n N a z t = (a ≤ t) × (t ≤ z)
Seen ReservedCondition n N a z t = ⊥

-- of these moments, r has those at which formula k does not hold
abbrev pub Failing : ConditionForm → (ℕ → ℕ → ℕ) → ℕ → ℕ → ℕ → ℕ → ℕ → ℕ → Type 0
Failing f value n k N a z r = (t : ℕ) → Seen f n N a z t → In r t ↔ (value k t ≡ holds → ⊥)

-- r tells whether a condition of form f, with M and N, which asks nothing of member j, is met at y, where the formula fails at `fails`
pub record Tells (f : ConditionForm) (n M N fails y : ℕ) (r : Bool) : Type 0 where
  pub met : (value : ℕ → ℕ → ℕ) (k a z x : ℕ) → a ≤ y → y ≤ z → Failing f value n k N a z fails → (r ≡ true) ↔ MetAs f value n k M N y y x

-- the moments y of a..z at which a condition of form f, on formula k with M and N, is met, where member j begins at x
abbrev pub MaskOf : ConditionForm → (ℕ → ℕ → ℕ) → ℕ → ℕ → ℕ → ℕ → ℕ → ℕ → ℕ → ℕ → Type 0
MaskOf f value n k M N a z x r = (y : ℕ) → In r y ↔ ((a ≤ y) × (y ≤ z) × MetAs f value n k M N y y x)

-- the mask r of a condition of form 2 or 3, which asks nothing of member j, where the formula fails at `fails`
pub record OwnMask (form n M N a z fails r : ℕ) : Type 0 where
  pub holds_before : form ≡ 2 → (value : ℕ → ℕ → ℕ) (k x : ℕ) → Failing HoldsBefore value n k N a z fails → MaskOf HoldsBefore value n k M N a z x r
  pub holds_after : form ≡ 3 → (value : ℕ → ℕ → ℕ) (k x : ℕ) → Failing HoldsAfter value n k N a z fails → MaskOf HoldsAfter value n k M N a z x r

-- the mask at c * 64 + x has the moments y of lo..hi at which member i may begin or end for condition c, where its partner begins at x; so
-- for each x of lo..hi and the first k conditions
pub record Allowed (value : ℕ → ℕ → ℕ) (cs : List ℕ) (n lo hi k : ℕ) (allow : List ℕ) : Type 0 where
  pub mask : (c x y : ℕ) → c < k → lo ≤ x → x ≤ hi → In (get_or allow (c * 64 + x) 0) y ↔ ((lo ≤ y) × (y ≤ hi) × MetAt value n (get_or cs c 0) y y x)
