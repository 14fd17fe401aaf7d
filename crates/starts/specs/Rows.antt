-- The rows on starts: each is a test on (job, starts, position). `start_rows` has them in their order.
use Rattle.std.specs.Prelude.{Bool, not, cond, ◌&&◌, ◌||◌, List, [], ◌∷◌, ℕ, suc, ◌+◌, ◌-◌, eqb, leb, ltb, get_or, length, take}
use Rattle.words.specs.Fields.{kind, fails, holds, fluent_of, role_of, start_moment, start_action, start_spare, shift_window_from, shift_window_to}
use Rattle.words.specs.Scan.{any, any_below, filter}
use Rattle.answers.specs.declared.Refusal.{Refusal}
use Rattle.answers.specs.Rows.{passed, first_refusal, first_of}
use Rattle.job.specs.Parts.{head_word, fluents, actions, last_moment, duration, laws_of, shift_windows_of, limit_of, in_group}
use Rattle.history.specs.Actions.{effect, finish, in_hand}
use Rattle.history.specs.Held.{held_at}
use Rattle.history.specs.Values.{value_at}

-- a word that is a start of the job; above the word before it, if there is one
abbrev pub is_start : List ℕ → ℕ → Bool
is_start job s =
    eqb (kind s) 9 && start_spare s && leb (start_moment s) (last_moment job) && ltb (start_action s) (actions job)

abbrev pub ascends : List ℕ → ℕ → Bool
ascends starts i = eqb i 0 || ltb (get_or starts (i - 1) 0) (get_or starts i 0)

-- row 6: kind or spare bit wrong, u > n, no such action, or not above the word before
unfoldable pub wrong_word : List ℕ → List ℕ → ℕ → Bool
wrong_word job starts i = not (is_start job (get_or starts i 0) && ascends starts i)

-- row 7: u + d > n
unfoldable pub ends_late : List ℕ → List ℕ → ℕ → Bool
ends_late job starts i = ltb (last_moment job) (finish job (get_or starts i 0))

-- row 8: an earlier start of it at v with v < u < v + d
abbrev pub restarts : List ℕ → ℕ → ℕ → Bool
restarts job earlier s =
    eqb (start_action earlier) (start_action s)
    && (ltb (start_moment earlier) (start_moment s) && ltb (start_moment s) (finish job earlier))

unfoldable pub in_hand_already : List ℕ → List ℕ → ℕ → Bool
in_hand_already job starts i = any_below (λ j. restarts job (get_or starts j 0) (get_or starts i 0)) i

-- row 9: clashes with the start of an earlier word, both in hand at some moment. Two actions clash (have contradictory effects) if one makes
-- true what the other makes false.
abbrev pub opposed : List ℕ → ℕ → ℕ → ℕ → Bool
opposed job a b f =
    (eqb (effect job a f) holds && eqb (effect job b f) fails) || (eqb (effect job a f) fails && eqb (effect job b f) holds)

unfoldable pub clash : List ℕ → ℕ → ℕ → Bool
clash job a b = any_below (opposed job a b) (fluents job)

unfoldable pub together : List ℕ → ℕ → ℕ → Bool
together job s s' = any_below (λ t. in_hand job t s && in_hand job t s') (last_moment job + 1)

abbrev pub clashing : List ℕ → ℕ → ℕ → Bool
clashing job earlier s = together job earlier s && clash job (start_action earlier) (start_action s)

unfoldable pub clashes : List ℕ → List ℕ → ℕ → Bool
clashes job starts i = any_below (λ j. clashing job (get_or starts j 0) (get_or starts i 0)) i

-- row 15: outside the shift windows of its action. An action that has some may start at u only if one of them has from ≤ u and u + d ≤ to;
-- an action without windows is free.
abbrev pub inside_window : ℕ → ℕ → ℕ → Bool
inside_window d u w = leb (shift_window_from w) u && leb (u + d) (shift_window_to w)

unfoldable pub may_start : List ℕ → ℕ → ℕ → Bool
may_start job u a = eqb (length (shift_windows_of job a)) 0 || any (inside_window (duration job a) u) (shift_windows_of job a)

unfoldable pub outside_windows : List ℕ → List ℕ → ℕ → Bool
outside_windows job starts i = not (may_start job (start_moment (get_or starts i 0)) (start_action (get_or starts i 0)))

-- what is in use of a group (a resource of limited capacity) at moment t: how many starts in hand have an action in it. A group is any test
-- on actions.
abbrev pub in_use : List ℕ → (ℕ → Bool) → List ℕ → ℕ → ℕ
in_use job group starts t = length (filter (λ s. group (start_action s)) (held_at job starts t))

-- the action of start s is in the group, and counting these starts more than the limit of it is in use at the moment of s
abbrev pub exceeds : List ℕ → (ℕ → Bool) → ℕ → List ℕ → ℕ → Bool
exceeds job group limit counted s = group (start_action s) && ltb limit (in_use job group counted (start_moment s))

-- so with some group of the job, of 0 to 7
unfoldable pub over_limit : List ℕ → List ℕ → ℕ → Bool
over_limit job counted s = any_below (λ g. exceeds job (in_group job g) (limit_of job g) counted s) 8

-- row 16: with it a group of its action exceeds its limit at its moment, counted with the words before it alone
unfoldable pub group_exceeded : List ℕ → List ℕ → ℕ → Bool
group_exceeded job starts i = over_limit job (take (suc i) starts) (get_or starts i 0)

-- row 10: needs not known, in the state of its own moment
abbrev pub unmet : ℕ → (ℕ → ℕ) → ℕ → Bool
unmet head value w =
    (eqb (role_of head w) 0 && not (eqb (value (fluent_of head w)) holds))
    || (eqb (role_of head w) 1 && not (eqb (value (fluent_of head w)) fails))

abbrev pub unmet_at : List ℕ → List ℕ → ℕ → ℕ → Bool
unmet_at job starts t a = any (unmet (head_word job) (value_at job starts t)) (laws_of job a)

unfoldable pub needs_unmet : List ℕ → List ℕ → ℕ → Bool
needs_unmet job starts i = unmet_at job starts (start_moment (get_or starts i 0)) (start_action (get_or starts i 0))

-- all rows in their order, each with its number
abbrev pub start_rows : List ℕ → List ℕ → List (ℕ × (ℕ → Bool))
start_rows job starts =
    (6, wrong_word job starts)
    ∷ (7, ends_late job starts)
    ∷ (8, in_hand_already job starts)
    ∷ (9, clashes job starts)
    ∷ (15, outside_windows job starts)
    ∷ (16, group_exceeded job starts)
    ∷ (10, needs_unmet job starts)
    ∷ []

-- a row's number at each position that it fits
abbrev pub numbered : ℕ → (ℕ → Bool) → ℕ → ℕ
numbered number test i = cond (test i) number 0

-- the first row that fits one of n words, at the first such word
unfoldable pub rows_refusal : List (ℕ × (ℕ → Bool)) → ℕ → Refusal
rows_refusal [] n = passed
rows_refusal (row ∷ rest) n = first_refusal (first_of (numbered row.0 row.1) n) (rows_refusal rest n)

unfoldable pub starts_refusal : List ℕ → List ℕ → Refusal
starts_refusal job starts = rows_refusal (start_rows job starts) (length starts)
