-- The forms of a node and of a condition, a node's fields, and the nodes that it names as children.
use Rattle.std.specs.Prelude.{ℕ, zero, suc, List, [], ◌∷◌}
use Rattle.words.specs.Fields.{form, node_x, node_y, node_m, node_n}
use Rattle.model.specs.Procedure.{Procedure}

-- the forms by their numbers, 0 to 8; any other number is reserved, and nothing reads such a node
pub data Form : Type 0 where
  Act Test Sequence Choice If While StartWindow EndWindow Set Reserved : Form

abbrev pub form_number : ℕ → Form
form_number zero = Act
form_number (suc zero) = Test
form_number (suc (suc zero)) = Sequence
form_number (suc (suc (suc zero))) = Choice
form_number (suc (suc (suc (suc zero)))) = If
form_number (suc (suc (suc (suc (suc zero))))) = While
form_number (suc (suc (suc (suc (suc (suc zero)))))) = StartWindow
form_number (suc (suc (suc (suc (suc (suc (suc zero))))))) = EndWindow
form_number (suc (suc (suc (suc (suc (suc (suc (suc zero)))))))) = Set
form_number (suc (suc (suc (suc (suc (suc (suc (suc (suc k))))))))) = Reserved

abbrev pub form_at : Procedure → ℕ → Form
form_at P p = form_number (form (P.node p))

-- the fields of node p
abbrev pub field_x : Procedure → ℕ → ℕ
field_x P p = node_x (P.node p)

abbrev pub field_y : Procedure → ℕ → ℕ
field_y P p = node_y (P.node p)

abbrev pub field_m : Procedure → ℕ → ℕ
field_m P p = node_m (P.node p)

abbrev pub field_n : Procedure → ℕ → ℕ
field_n P p = node_n (P.node p)

-- the children that a node's own word names: X and Y of forms 2, 3, 6, 7; Y and M of form 4; Y of form 5. The members of a task set have
-- words of their own.
abbrev pub named_by_form : Form → ℕ → List ℕ
named_by_form Act w = []
named_by_form Test w = []
named_by_form Sequence w = node_x w ∷ node_y w ∷ []
named_by_form Choice w = node_x w ∷ node_y w ∷ []
named_by_form If w = node_y w ∷ node_m w ∷ []
named_by_form While w = node_y w ∷ []
named_by_form StartWindow w = node_x w ∷ node_y w ∷ []
named_by_form EndWindow w = node_x w ∷ node_y w ∷ []
named_by_form Set w = []
named_by_form Reserved w = []

-- the forms of a condition by their numbers, 0 to 4: member j begins in a window after member i's begin or end; a formula holds through a
-- window before i's begin, after i's end, or between i's end and j's begin. Any other number is reserved, and no such condition is met.
pub data ConditionForm : Type 0 where
  BeginAfterBegin BeginAfterEnd HoldsBefore HoldsAfter HoldsBetween ReservedCondition : ConditionForm

abbrev pub condition_number : ℕ → ConditionForm
condition_number zero = BeginAfterBegin
condition_number (suc zero) = BeginAfterEnd
condition_number (suc (suc zero)) = HoldsBefore
condition_number (suc (suc (suc zero))) = HoldsAfter
condition_number (suc (suc (suc (suc zero)))) = HoldsBetween
condition_number (suc (suc (suc (suc (suc k))))) = ReservedCondition

-- the form of a condition word
abbrev pub condition_form : ℕ → ConditionForm
condition_form w = condition_number (form w)
