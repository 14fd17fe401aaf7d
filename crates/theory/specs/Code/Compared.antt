-- Between functions: row 11, by one part of the wanted list after the other.
use Rattle.std.specs.Prelude.{cond, List, [], ◌∷◌, ℕ, suc, eqb}
use Rattle.answers.specs.declared.Refusal.{Refusal}
use Rattle.answers.specs.Rows.{refusal, passed}

-- on what is left of the given list at position i, by the part that is wanted there: a word of it differs, or the given list ends before
unfoldable pub part_refusal : List ℕ → List ℕ → ℕ → Refusal
part_refusal given [] i = passed
part_refusal [] (b ∷ part) i = refusal 11 i
part_refusal (a ∷ given) (b ∷ part) i = cond (eqb a b) (part_refusal given part (suc i)) (refusal 11 i)
