-- Between functions: how many formulas a job has.
use Rattle.std.specs.Prelude.{List, ℕ}
use Rattle.job.specs.Parts.{total}

abbrev pub formula_count : List ℕ → ℕ
formula_count job = total 5 job
