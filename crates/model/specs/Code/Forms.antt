-- Between functions: all children of a node, those that its word names or the members of its set; which conditions ask for a formula; that
-- each node is named once.
use Rattle.std.specs.Prelude.{ℕ, suc, ◌<◌, Bool, true, false, ◌≡◌, List, [], ◌∷◌}
use Rattle.words.specs.Scan.{count}
use Rattle.bitset.specs.Code.Members.{sum_below}
use Rattle.model.specs.Procedure.{Procedure}
use Rattle.model.specs.Forms.{Form, Act, Test, Sequence, Choice, If, While, StartWindow, EndWindow, Set, Reserved, form_at, named_by_form, ConditionForm, BeginAfterBegin, BeginAfterEnd, HoldsBefore, HoldsAfter, HoldsBetween, ReservedCondition}

-- the children of node p: those that its word names, or the members of its task set
abbrev pub children_as : Procedure → Form → ℕ → List ℕ
children_as P Set p = P.members p
children_as P Act p = []
children_as P Test p = []
children_as P Sequence p = named_by_form Sequence (P.node p)
children_as P Choice p = named_by_form Choice (P.node p)
children_as P If p = named_by_form If (P.node p)
children_as P While p = named_by_form While (P.node p)
children_as P StartWindow p = named_by_form StartWindow (P.node p)
children_as P EndWindow p = named_by_form EndWindow (P.node p)
children_as P Reserved p = []

abbrev pub children : Procedure → ℕ → List ℕ
children P p = children_as P (form_at P p) p

-- every number of the list is below n
abbrev pub Below : ℕ → List ℕ → Type 0
Below n [] = Unit {0}
Below n (x ∷ xs) = (x < n) × Below n xs

-- it asks for its formula's value
abbrev pub asks_formula : ConditionForm → Bool
asks_formula BeginAfterBegin = false
asks_formula BeginAfterEnd = false
asks_formula HoldsBefore = true
asks_formula HoldsAfter = true
asks_formula HoldsBetween = true
asks_formula ReservedCondition = false

-- each node but the root is named as a child exactly once
abbrev pub NamedOnce : Procedure → Type 0
NamedOnce P = (q : ℕ) → suc q < P.count → sum_below (λ p. count q (children P p)) P.count ≡ 1
