-- The rule of each kind: the refusal of a word by the few facts of the words before it that the document names for that kind.
-- A new kind is one more definition here, and one more line of `predecessors` (Follow) and of `rules` (Refusal).
use Rattle.std.specs.Prelude.{Bool, true, not, cond, ◌&&◌, ◌||◌, ℕ, ◌+◌, ◌/◌, leb, ltb, eqb}
use Rattle.words.specs.Tests.{implies, within}
use Rattle.words.specs.Fields.{spare, kind, form, head_shape, most_fluents, fluents_of, actions_of, last_of, fluent_of, known_spare, action_spare, action_number, duration_of, role_of, law_spare, formula_x, formula_y, atom_fluent, atom_spare, node_x, node_m, node_n, member_spare, member_node, condition_formula, condition_i, condition_j, condition_m, condition_n, shift_window_spare, shift_window_action, shift_window_from, shift_window_to, group_spare, group_number, group_action}
use Rattle.words.specs.Scan.{every}
use Rattle.job.specs.Children.{node_children}

-- rows 2, 3 and 4 on a word, in turn: what is allowed by form and spare bits; by numbers, references and ranges; and as not listed already
unfoldable pub word_refusal_of : Bool → Bool → Bool → ℕ
word_refusal_of shape range fresh = cond shape (cond range (cond fresh 0 4) 3) 2

-- a word of a kind of which there are at most `most`, with `count` of them before it
abbrev pub limited : ℕ → ℕ → Bool → Bool → ℕ
limited most count shape range = word_refusal_of shape (ltb count most && range) true

-- kind 1, head
abbrev pub head_refusal : ℕ → ℕ
head_refusal w =
    word_refusal_of (head_shape w)
    (within 1 (most_fluents w) (fluents_of w) && within 1 64 (actions_of w) && leb (last_of w) 63)
    true

-- kind 2, initially known: whether its fluent is listed already
abbrev pub known_refusal : ℕ → Bool → ℕ → ℕ
known_refusal head listed w = word_refusal_of (known_spare head w) (ltb (fluent_of head w) (fluents_of head)) (not listed)

-- kind 3, action: how many actions are declared
abbrev pub action_refusal : ℕ → ℕ → ℕ
action_refusal actions w = word_refusal_of (action_spare w) (eqb (action_number w) actions && leb 1 (duration_of w)) true

-- kind 4, law: whether its fluent is listed in this action, in roles of its pair
abbrev pub law_refusal : ℕ → Bool → ℕ → ℕ
law_refusal head listed w = word_refusal_of (law_spare head w) (ltb (fluent_of head w) (fluents_of head)) (not listed)

-- two words of one kind list the same fluent; of laws, in the same pair of roles: needs (0, 1) or makes (2, 3). In words of kind 2 the bit
-- that `role_of / 2` reads is spare, so that the fluent alone counts.
abbrev pub same_fluent : ℕ → ℕ → ℕ → Bool
same_fluent head w v =
    eqb (kind v) (kind w) && eqb (role_of head v / 2) (role_of head w / 2) && eqb (fluent_of head v) (fluent_of head w)

-- kind 5, formula: its form is one of these, and the fields that it does not use are zero
abbrev pub formula_shape : ℕ → ℕ → Bool
formula_shape head w =
    (eqb (form w) 0 && spare w 23 0)
    || (eqb (form w) 1 && atom_spare head w)
    || (eqb (form w) 2 && (spare w 23 12 && spare w 5 0))
    || (within 3 5 (form w) && spare w 23 12)

-- its fluent is the job's; the formulas that it refers to are declared. The Y of form 5 is a number of moments, and any is lawful
abbrev pub formula_range : ℕ → ℕ → ℕ → Bool
formula_range head formulas w =
    implies (eqb (form w) 1) (ltb (atom_fluent head w) (fluents_of head))
    && implies (within 2 5 (form w)) (ltb (formula_x w) formulas)
    && implies (within 3 4 (form w)) (ltb (formula_y w) formulas)

-- how many formulas are declared
abbrev pub formula_refusal : ℕ → ℕ → ℕ → ℕ
formula_refusal head formulas w = limited 64 formulas (formula_shape head w) (formula_range head formulas w)

-- kind 6, program node: its form is one of these, and the fields that it does not use are zero
abbrev pub node_shape : ℕ → Bool
node_shape w =
    (leb (form w) 1 && spare w 17 0)
    || ((within 2 3 (form w) || eqb (form w) 5) && spare w 11 0)
    || (eqb (form w) 4 && spare w 5 0)
    || within 6 7 (form w)
    || (eqb (form w) 8 && spare w 23 0)

-- what its fields name is declared: an action (form 0), a formula (1, 4, 5), its children; and its window has M ≤ N (6, 7)
abbrev pub node_range : ℕ → ℕ → ℕ → ℕ → Bool
node_range actions formulas nodes w =
    implies (eqb (form w) 0) (ltb (node_x w) actions)
    && implies (eqb (form w) 1 || within 4 5 (form w)) (ltb (node_x w) formulas)
    && every (λ q. ltb q nodes) (node_children w)
    && implies (within 6 7 (form w)) (leb (node_m w) (node_n w))

-- how many actions, formulas and nodes are declared
abbrev pub node_refusal : ℕ → ℕ → ℕ → ℕ → ℕ
node_refusal actions formulas nodes w = limited 64 nodes (node_shape w) (node_range actions formulas nodes w)

-- kind 7, member: how many nodes are declared, the last of which is its set, and that set's members so far
abbrev pub member_refusal : ℕ → ℕ → ℕ → ℕ
member_refusal nodes members w = limited 4 members (member_spare w) (ltb (member_node w + 1) nodes)

-- kind 8, condition: its form is one of these, and the fields that it does not use are zero
abbrev pub condition_shape : ℕ → Bool
condition_shape w =
    (leb (form w) 1 && spare w 23 18)
    || (within 2 3 (form w) && spare w 14 12)
    || eqb (form w) 4

-- its formula is declared (2 to 4), its members i, and j (0, 1, 4), are this set's, and M ≤ N (0 to 3)
abbrev pub condition_range : ℕ → ℕ → ℕ → Bool
condition_range formulas members w =
    implies (within 2 4 (form w)) (ltb (condition_formula w) formulas)
    && ltb (condition_i w) members
    && implies (leb (form w) 1 || eqb (form w) 4) (ltb (condition_j w) members)
    && implies (leb (form w) 3) (leb (condition_m w) (condition_n w))

-- how many formulas are declared, and the set's members and conditions so far
abbrev pub condition_refusal : ℕ → ℕ → ℕ → ℕ → ℕ
condition_refusal formulas members conditions w = limited 8 conditions (condition_shape w) (condition_range formulas members w)

-- kind 12, shift window: its action is declared, and from ≤ to
abbrev pub shift_window_refusal : ℕ → ℕ → ℕ
shift_window_refusal actions w = word_refusal_of (shift_window_spare w) (ltb (shift_window_action w) actions && leb (shift_window_from w) (shift_window_to w)) true

-- kind 13, group, one of 0 to 7: whether it is declared already
abbrev pub group_refusal : Bool → ℕ → ℕ
group_refusal declared w = word_refusal_of (group_spare w) (ltb (group_number w) 8) (not declared)

-- kind 14, an action in a group: how many actions are declared, whether the group is, and whether it has that action already
abbrev pub group_member_refusal : ℕ → Bool → Bool → ℕ → ℕ
group_member_refusal actions declared listed w =
    word_refusal_of (group_spare w) (ltb (group_number w) 8 && declared && ltb (group_action w) actions) (not listed)
