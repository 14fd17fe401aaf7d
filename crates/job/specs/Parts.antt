-- What a well-formed job says, part by part: its head, actions with their shift windows, groups, formulas and nodes. Actions,
-- formulas and nodes are numbered from 0 as they stand, and a group has the number that its word says.
use Rattle.std.specs.Prelude.{Bool, ◌&&◌, List, ℕ, eqb, get_or, length, drop}
use Rattle.words.specs.Fields.{of_kind, fluents_of, actions_of, last_of, duration_of, shift_window_action, group_number, group_limit, group_action}
use Rattle.words.specs.Scan.{any, filter, find_or, take_while, drop_while, from_nth}
use Rattle.job.specs.Before.{before, count_of_kind}

abbrev pub head_word : List ℕ → ℕ
head_word job = get_or job 0 0

abbrev pub fluents : List ℕ → ℕ
fluents job = fluents_of (head_word job)

abbrev pub actions : List ℕ → ℕ
actions job = actions_of (head_word job)

abbrev pub last_moment : List ℕ → ℕ
last_moment job = last_of (head_word job)

-- how many words of kind k there are; the job's words from number j of them on; that word
abbrev pub total : ℕ → List ℕ → ℕ
total k job = count_of_kind k (before job (length job))

abbrev pub words_from : ℕ → List ℕ → ℕ → List ℕ
words_from k job j = from_nth (of_kind k) j job

abbrev pub word_of_kind : ℕ → List ℕ → ℕ → ℕ
word_of_kind k job j = get_or (words_from k job j) 0 0

-- action a: its duration, and its laws, the words of kind 4 after its own
unfoldable pub duration : List ℕ → ℕ → ℕ
duration job a = duration_of (word_of_kind 3 job a)

unfoldable pub laws_of : List ℕ → ℕ → List ℕ
laws_of job a = take_while (of_kind 4) (drop 1 (words_from 3 job a))

-- its shift windows, the words of kind 12 that name it
abbrev pub is_shift_window_of : ℕ → ℕ → Bool
is_shift_window_of a w = of_kind 12 w && eqb a (shift_window_action w)

unfoldable pub shift_windows_of : List ℕ → ℕ → List ℕ
shift_windows_of job a = filter (is_shift_window_of a) job

-- group g: its own word, which has its limit; its actions, those that a word of kind 14 lists in it. A group that is not declared has no
-- actions.
abbrev pub is_group : ℕ → ℕ → Bool
is_group g w = of_kind 13 w && eqb g (group_number w)

abbrev pub lists_in : ℕ → ℕ → ℕ → Bool
lists_in g a w = of_kind 14 w && (eqb g (group_number w) && eqb a (group_action w))

unfoldable pub limit_of : List ℕ → ℕ → ℕ
limit_of job g = find_or (is_group g) group_limit 0 job

unfoldable pub in_group : List ℕ → ℕ → ℕ → Bool
in_group job g a = any (lists_in g a) job

-- the word of formula k
unfoldable pub formula_word : List ℕ → ℕ → ℕ
formula_word job k = word_of_kind 5 job k

-- how many nodes there are, and the word of node p; of a task set the nodes of its members, and its condition words
abbrev pub node_count : List ℕ → ℕ
node_count job = total 6 job

unfoldable pub node_word : List ℕ → ℕ → ℕ
node_word job p = word_of_kind 6 job p

unfoldable pub member_words : List ℕ → ℕ → List ℕ
member_words job p = take_while (of_kind 7) (drop 1 (words_from 6 job p))

unfoldable pub condition_words : List ℕ → ℕ → List ℕ
condition_words job p = take_while (of_kind 8) (drop_while (of_kind 7) (drop 1 (words_from 6 job p)))
