-- The nodes that a word of a job names as children.
use Rattle.std.specs.Prelude.{cond, List, [], ◌∷◌, ℕ, eqb}
use Rattle.words.specs.Fields.{kind, form, member_node}
use Rattle.model.specs.Forms.{form_number, named_by_form}

-- a node word: what its form names
abbrev pub node_children : ℕ → List ℕ
node_children w = named_by_form (form_number (form w)) w

-- any word: of kind 6 these, of kind 7 the member
abbrev pub word_children : ℕ → List ℕ
word_children w = cond (eqb (kind w) 6) (node_children w) (cond (eqb (kind w) 7) (member_node w ∷ []) [])
