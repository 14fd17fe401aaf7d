-- The rule of a task set: its members, each read from some begin to some end within b..e, cover the moments of b..e, and the conditions are met.
use Rattle.std.specs.Prelude.{ℕ, ◌+◌, ◌≤◌, ◌<◌, ◌≡◌, List, length, get_or}
use Rattle.words.specs.Fields.{holds, condition_formula, condition_i, condition_j, condition_m, condition_n}
use Rattle.model.specs.Forms.{ConditionForm, BeginAfterBegin, BeginAfterEnd, HoldsBefore, HoldsAfter, HoldsBetween, ReservedCondition, condition_form}
use Rattle.covering.specs.Cover.{Covers}

-- the nodes of the members, the condition words, the value of formula k at moment t, and the last moment
pub record TaskSet : Type 0 where
  pub members : List ℕ
  pub conditions : List ℕ
  pub value : ℕ → ℕ → ℕ
  pub last : ℕ

abbrev pub member_count : TaskSet → ℕ
member_count s = length s.members

-- a condition of each form, on formula k with M and N, where member i begins at bi and ends at ei and member j begins at bj
abbrev pub MetAs : ConditionForm → (ℕ → ℕ → ℕ) → ℕ → ℕ → ℕ → ℕ → ℕ → ℕ → ℕ → Type 0
MetAs BeginAfterBegin value n k M N bi ei bj = (bi + M ≤ bj) × (bj ≤ bi + N)
MetAs BeginAfterEnd value n k M N bi ei bj = (ei + M ≤ bj) × (bj ≤ ei + N)
MetAs HoldsBefore value n k M N bi ei bj = (N ≤ bi) × ((t : ℕ) → bi ≤ t + N → t + M ≤ bi → value k t ≡ holds)
MetAs HoldsAfter value n k M N bi ei bj = (ei + N ≤ n) × ((t : ℕ) → ei + M ≤ t → t ≤ ei + N → value k t ≡ holds)
MetAs HoldsBetween value n k M N bi ei bj = (t : ℕ) → ei + M ≤ t → t + N ≤ bj → value k t ≡ holds
MetAs ReservedCondition value n k M N bi ei bj = ⊥

-- the condition word w is met
abbrev pub MetAt : (ℕ → ℕ → ℕ) → ℕ → ℕ → ℕ → ℕ → ℕ → Type 0
MetAt value n w bi ei bj = MetAs (condition_form w) value n (condition_formula w) (condition_m w) (condition_n w) bi ei bj

-- the condition word w is met where each member i begins at bs i and ends at es i
abbrev pub Met : TaskSet → ℕ → (ℕ → ℕ) → (ℕ → ℕ) → Type 0
Met s w bs es = MetAt s.value s.last w (bs (condition_i w)) (es (condition_i w)) (bs (condition_j w))

-- begins and ends that are lawful from b to e, whatever the members read
pub record Placing (s : TaskSet) (b e : ℕ) (bs es : ℕ → ℕ) : Type 0 where
  pub onward : b ≤ e
  pub within : e ≤ s.last
  pub inside : (i : ℕ) → i < member_count s → (b ≤ bs i) × (bs i ≤ es i) × (es i ≤ e)
  pub covers : Covers (member_count s) bs es b e
  pub met : (c : ℕ) → c < length s.conditions → Met s (get_or s.conditions c 0) bs es
