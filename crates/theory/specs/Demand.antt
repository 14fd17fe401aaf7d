-- Demand 2, as statements. `passes_exactly` and `filled_passes` (proofs/Demand.antt) show them.
use Rattle.std.specs.Prelude.{List, ◌↔◌, ◌≡◌, ℕ, take}
use Rattle.answers.specs.declared.Answer.TheVariants.{Accepted}
use Rattle.facts.specs.Facts.{facts_of}
use Rattle.theory.specs.Answers.{plan_refusal, Passes, check_answer, fill_answer, written}

-- a plan passes exactly when no row on its job and starts fits and its facts are those of the rules
abbrev pub PassesExactly : Type 0
PassesExactly =
    (job starts facts : List ℕ) → Passes job starts facts ↔ (((plan_refusal job starts).number ≡ 0) × (facts ≡ facts_of job starts))

-- where fill accepts, the first words of the buffer are the list of facts, and with them check accepts
abbrev pub FilledPasses : Type 0
FilledPasses =
    (room : ℕ) (job starts buffer : List ℕ) (l c : ℕ) → fill_answer room job starts ≡ Accepted l c
    → (take l (written (fill_answer room job starts) (facts_of job starts) buffer) ≡ facts_of job starts)
    × (check_answer job starts (take l (written (fill_answer room job starts) (facts_of job starts) buffer)) ≡ Accepted 0 0)
