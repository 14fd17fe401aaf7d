-- Which row an answer of find comes from. Assumes nothing.
use mathlib.Core.List.{List}
use mathlib.Core.Path.{◌≡◌, refl, sym, ◌∙◌}
use Prim.Native.Nat.{ℕ, ◌^◌, ◌<◌}
use native.Mathlib.Omega.{arith}
use lib.Dec.{ltb}
use lib.ListN.{get_or}
use Rattle.answers.specs.Rows.{first_refusal}
use Rattle.answers.proofs.Rows.{or_refused, or_passed}
use Rattle.answers.proofs.Range.{Fitting, or_fits, row_fits}
use Rattle.theory.specs.Answers.{buffer_refusal, check_refusal}
use Rattle.theory.proofs.Range.{check_fits}
use Rattle.finder.specs.Find.{find_refusal}

module _ (room : ℕ) (job starts facts : List ℕ) where
  -- row 12, then the rows of check
  rows : first_refusal (buffer_refusal room) (check_refusal job starts facts) ≡ find_refusal room job starts facts
  unfolding find_refusal check_refusal
  rows = refl

  pub by_buffer : ((buffer_refusal room).number ≡ 0 → ⊥) → buffer_refusal room ≡ find_refusal room job starts facts
  by_buffer n = or_refused (buffer_refusal room) (check_refusal job starts facts) n ∙ rows

  pub by_check : (buffer_refusal room).number ≡ 0 → check_refusal job starts facts ≡ find_refusal room job starts facts
  by_check z = or_passed (buffer_refusal room) (check_refusal job starts facts) z ∙ rows

  -- the fields of a refusal hold it
  pub find_fits : ((i : ℕ) → get_or starts i 0 < 2 ^ 32) → Fitting (find_refusal room job starts facts)
  find_fits words = rw (sym rows) (or_fits (buffer_refusal room) _ (row_fits (ltb room 4096) 12 0 (omega arith) (omega arith)) (check_fits job starts words facts))
