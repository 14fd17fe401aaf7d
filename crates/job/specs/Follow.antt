-- Which words may follow which, one table by kind.
use Rattle.std.specs.Prelude.{Bool, false, cond, ◌||◌, List, [], ◌∷◌, ℕ, eqb}
use Rattle.words.specs.Tests.{within}
use Rattle.words.specs.Fields.{kind, is_set}

-- the entry of a table at kind k, or `other` where it has none
abbrev pub by_kind : {A : Type 0} → A → ℕ → List (ℕ × A) → A
by_kind other k [] = other
by_kind other k (e ∷ rest) = cond (eqb k e.0) e.1 (by_kind other k rest)

-- what stands directly before a word: a word of a kind, which is below 16, a task set (a node of form 8), or nothing
abbrev pub set_node : ℕ
set_node = 16

abbrev pub nothing : ℕ
nothing = 17

unfoldable pub predecessor : List ℕ → ℕ
predecessor [] = nothing
predecessor (w ∷ p) = cond (is_set w) set_node (kind w)

-- by kind, whether a word of it may stand directly after v
abbrev pub predecessors : ℕ → List (ℕ × Bool)
predecessors v =
    (1, eqb v nothing)
    ∷ (2, within 1 2 v)
    ∷ (3, within 1 4 v)
    ∷ (4, within 3 4 v)
    ∷ (5, within 1 5 v || within 12 14 v)
    ∷ (6, within 1 8 v || within 12 14 v)
    ∷ (7, eqb v set_node || eqb v 7)
    ∷ (8, within 7 8 v)
    ∷ (12, within 3 4 v || eqb v 12)
    ∷ (13, within 3 4 v || within 12 13 v)
    ∷ (14, within 13 14 v)
    ∷ []

abbrev pub may_follow : ℕ → ℕ → Bool
may_follow k v = by_kind false k (predecessors v)
