-- The fields of the words, each said here alone. A field that may stand elsewhere in the jobs of another head takes the head.
use Rattle.std.specs.Prelude.{Bool, cond, ◌&&◌, ℕ, ◌+◌, ◌-◌, ◌*◌, ◌/◌, ◌%◌, ◌^◌, eqb, leb}

-- bits hi..lo of a word
abbrev pub field : ℕ → ℕ → ℕ → ℕ
field w hi lo = w / 2 ^ lo % 2 ^ (hi + 1 - lo)

-- bits hi..lo are zero
abbrev pub spare : ℕ → ℕ → ℕ → Bool
spare w hi lo = eqb (field w hi lo) 0

-- every word: its kind; of kinds 1, 5, 6 and 8 the form
abbrev pub kind : ℕ → ℕ
kind w = field w 31 28

abbrev pub of_kind : ℕ → ℕ → Bool
of_kind k w = eqb (kind w) k

abbrev pub form : ℕ → ℕ
form w = field w 27 24

-- the three values of a fluent or a formula, in their order; `unknown` is the document's 'open', a word that antt reserves
abbrev pub fails : ℕ
fails = 0

abbrev pub unknown : ℕ
unknown = 1

abbrev pub holds : ℕ
holds = 2

-- kind 1, head: its form is 0, or 1 where it is wide, which moves the fields that name a fluent; how many fluents such a head may have;
-- fluents F (in a wide head a field of 0 says 256), actions, last moment n
abbrev pub head_shape : ℕ → Bool
head_shape head = leb (form head) 1

abbrev pub wide : ℕ → Bool
wide head = eqb (form head) 1

abbrev pub most_fluents : ℕ → ℕ
most_fluents head = cond (wide head) 256 64

abbrev pub fluents_of : ℕ → ℕ
fluents_of head = cond (wide head && eqb (field head 23 16) 0) 256 (field head 23 16)

abbrev pub actions_of : ℕ → ℕ
actions_of head = field head 15 8

abbrev pub last_of : ℕ → ℕ
last_of head = field head 7 0

-- kind 2, initially known, and kind 4, law: the fluent
abbrev pub fluent_of : ℕ → ℕ → ℕ
fluent_of head w = cond (wide head) (field w 7 0) (field w 5 0)

-- kind 2: the value, and the bits that it leaves spare
abbrev pub known_value : ℕ → ℕ → ℕ
known_value head w = cond (eqb (cond (wide head) (field w 8 8) (field w 6 6)) 0) holds fails

abbrev pub known_spare : ℕ → ℕ → Bool
known_spare head w = cond (wide head) (spare w 27 9) (spare w 27 7)

-- kind 3, action: its number, its duration, and the bits that it leaves spare
abbrev pub action_spare : ℕ → Bool
action_spare w = spare w 27 12

abbrev pub action_number : ℕ → ℕ
action_number w = field w 11 6

abbrev pub duration_of : ℕ → ℕ
duration_of w = field w 5 0

-- kind 4, law: the role (0 needs true, 1 needs false: AD's executability conditions; 2 makes true, 3 makes false: its effects), and the
-- bits that it leaves spare
abbrev pub role_of : ℕ → ℕ → ℕ
role_of head w = cond (wide head) (field w 9 8) (field w 7 6)

abbrev pub law_spare : ℕ → ℕ → Bool
law_spare head w = cond (wide head) (spare w 27 10) (spare w 27 8)

-- a role makes a value, and does not need one; the value that a making role makes
abbrev pub makes : ℕ → Bool
makes role = leb 2 role

abbrev pub made_value : ℕ → ℕ
made_value role = cond (eqb role 2) holds fails

-- kind 5, formula: X and Y; of form 1 the fluent, and the bits that it leaves spare
abbrev pub formula_x : ℕ → ℕ
formula_x w = field w 11 6

abbrev pub formula_y : ℕ → ℕ
formula_y w = field w 5 0

abbrev pub atom_fluent : ℕ → ℕ → ℕ
atom_fluent head w = cond (wide head) (field w 7 0) (field w 11 6)

abbrev pub atom_spare : ℕ → ℕ → Bool
atom_spare head w = cond (wide head) (spare w 23 8) (spare w 23 12 && spare w 5 0)

-- kind 6, node: X, Y, M, N
abbrev pub node_x : ℕ → ℕ
node_x w = field w 23 18

abbrev pub node_y : ℕ → ℕ
node_y w = field w 17 12

abbrev pub node_m : ℕ → ℕ
node_m w = field w 11 6

abbrev pub node_n : ℕ → ℕ
node_n w = field w 5 0

-- a node of form 8, a task set
abbrev pub is_set : ℕ → Bool
is_set w = eqb (kind w) 6 && eqb (form w) 8

-- kind 7, member: its node, and the bits that it leaves spare
abbrev pub member_spare : ℕ → Bool
member_spare w = spare w 27 6

abbrev pub member_node : ℕ → ℕ
member_node w = field w 5 0

-- kind 8, condition: formula, members i and j, M, N
abbrev pub condition_formula : ℕ → ℕ
condition_formula w = field w 23 18

abbrev pub condition_i : ℕ → ℕ
condition_i w = field w 17 15

abbrev pub condition_j : ℕ → ℕ
condition_j w = field w 14 12

abbrev pub condition_m : ℕ → ℕ
condition_m w = field w 11 6

abbrev pub condition_n : ℕ → ℕ
condition_n w = field w 5 0

-- kind 9, start (an occurrence of an action, 004's init): its moment u (time point), its action a, and the bits that it leaves
-- spare; the word that action a starts at moment u
abbrev pub start_spare : ℕ → Bool
start_spare s = spare s 27 12

abbrev pub start_moment : ℕ → ℕ
start_moment s = field s 11 6

abbrev pub start_action : ℕ → ℕ
start_action s = field s 5 0

abbrev pub start_word : ℕ → ℕ → ℕ
start_word u a = 9 * 2 ^ 28 + u * 2 ^ 6 + a

-- kind 10, fact: the moment, in its place; the word that fluent f has a value, other than open, at moment t; how many words the facts of a
-- plan may need
abbrev pub fact_moment : ℕ → ℕ → ℕ
fact_moment head t = cond (wide head) (t * 2 ^ 9) (t * 2 ^ 7)

abbrev pub fact_word : ℕ → ℕ → ℕ → ℕ → ℕ
fact_word head t f value = 10 * 2 ^ 28 + fact_moment head t + f * 2 + cond (eqb value holds) 0 1

abbrev pub fact_room : ℕ → ℕ
fact_room head = cond (wide head) 16384 4096

-- kind 11, a word of a reading: node p from b to e
abbrev pub reading_word : ℕ → ℕ → ℕ → ℕ
reading_word p b e = 11 * 2 ^ 28 + p * 2 ^ 12 + b * 2 ^ 6 + e

-- kind 12, shift window (a time window of an action): its action, the first moment at which it may start, the last at which it may finish,
-- and the bits that it leaves spare
abbrev pub shift_window_spare : ℕ → Bool
shift_window_spare w = spare w 27 18

abbrev pub shift_window_action : ℕ → ℕ
shift_window_action w = field w 17 12

abbrev pub shift_window_from : ℕ → ℕ
shift_window_from w = field w 11 6

abbrev pub shift_window_to : ℕ → ℕ
shift_window_to w = field w 5 0

-- kind 13, group (a resource of limited capacity): its number and its limit; kind 14, an action in a group: the group's number and the
-- action; and the bits that both leave spare
abbrev pub group_spare : ℕ → Bool
group_spare w = spare w 23 6

abbrev pub group_number : ℕ → ℕ
group_number w = field w 27 24

abbrev pub group_limit : ℕ → ℕ
group_limit w = field w 5 0

abbrev pub group_action : ℕ → ℕ
group_action w = field w 5 0
