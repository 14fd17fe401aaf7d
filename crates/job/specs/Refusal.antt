-- The refusal of a job, by number and position: rows 1 to 5.
use Rattle.std.specs.Prelude.{Bool, not, cond, ◌&&◌, List, [], ◌∷◌, ℕ, ◌-◌, eqb, get_or, length}
use Rattle.words.specs.Tests.{within}
use Rattle.words.specs.Fields.{kind, form, actions_of, group_number, group_action}
use Rattle.words.specs.Scan.{any}
use Rattle.job.specs.Rules.{head_refusal, known_refusal, action_refusal, law_refusal, same_fluent, formula_refusal, node_refusal, member_refusal, condition_refusal, shift_window_refusal, group_refusal, group_member_refusal}
use Rattle.job.specs.Before.{before, count_of_kind, since, latest, named}
use Rattle.job.specs.Follow.{by_kind, predecessor, may_follow}
use Rattle.job.specs.Parts.{is_group, lists_in}
use Rattle.answers.specs.declared.Refusal.{Refusal}
use Rattle.answers.specs.Rows.{row, first_refusal, first_of}

-- the refusal of word w after the words p of a job with that head, by each kind that it may be of; 0 for none. All groups stand before
-- all pairs of a group and an action, so that the pairs before a word stand after the last group.
abbrev pub rules : ℕ → List ℕ → ℕ → List (ℕ × ℕ)
rules head p w =
    (1, head_refusal w)
    ∷ (2, known_refusal head (any (same_fluent head w) (since 1 p)) w)
    ∷ (3, action_refusal (count_of_kind 3 p) w)
    ∷ (4, law_refusal head (any (same_fluent head w) (since 3 p)) w)
    ∷ (5, formula_refusal head (count_of_kind 5 p) w)
    ∷ (6, node_refusal (count_of_kind 3 p) (count_of_kind 5 p) (count_of_kind 6 p) w)
    ∷ (7, member_refusal (count_of_kind 6 p) (count_of_kind 7 (since 6 p)) w)
    ∷ (8, condition_refusal (count_of_kind 5 p) (count_of_kind 7 (since 6 p)) (count_of_kind 8 (since 6 p)) w)
    ∷ (12, shift_window_refusal (count_of_kind 3 p) w)
    ∷ (13, group_refusal (any (is_group (group_number w)) p) w)
    ∷ (14, group_member_refusal (count_of_kind 3 p) (any (is_group (group_number w)) p) (any (lists_in (group_number w) (group_action w)) (since 13 p)) w)
    ∷ []

-- 2 for a word that may not follow the one before, or of a kind that a job does not have; else by its rule
unfoldable pub word_refusal : ℕ → List ℕ → ℕ → ℕ
word_refusal head p w = cond (may_follow (kind w) (predecessor p)) (by_kind 2 (kind w) (rules head p w)) 2

-- the refusal of the word at position i
unfoldable pub refusal_of : List ℕ → ℕ → ℕ
refusal_of job i = word_refusal (get_or job 0 0) (before job i) (get_or job i 0)

-- the last node is a set without members
abbrev pub empty_set : List ℕ → Bool
empty_set p = eqb (form (latest 6 p)) 8 && eqb (count_of_kind 7 (since 6 p)) 0

-- a node that is not named exactly once
unfoldable pub name_refusal : List ℕ → ℕ → ℕ
name_refusal p v = cond (eqb (named v p) 1) 0 5

-- the rows of the job end: p has all words, and the root is its last node. Row 3's position is the job's length; row 5's is a node's
-- number, or 0 where there is no node.
unfoldable pub end_refusal : ℕ → ℕ → List ℕ → Refusal
end_refusal head len p =
    first_refusal (row (not (eqb (count_of_kind 3 p) (actions_of head))) 3 len)
    (first_refusal (row (eqb (count_of_kind 6 p) 0) 5 0)
    (first_refusal (row (empty_set p) 5 (count_of_kind 6 p - 1))
    (first_of (name_refusal p) (count_of_kind 6 p - 1))))

unfoldable pub job_refusal : List ℕ → Refusal
job_refusal job =
    first_refusal (row (not (within 1 2048 (length job))) 1 0)
    (first_refusal (first_of (refusal_of job) (length job)) (end_refusal (get_or job 0 0) (length job) (before job (length job))))
