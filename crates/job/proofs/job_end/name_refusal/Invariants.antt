-- The invariant of `job::job_end::name_refusal`: every node below `v` is named exactly once.
use mathlib.Core.List.{List}
use mathlib.Core.Path.{◌≡◌}
use Prim.Native.Nat.{ℕ}
use lib.Dec.{eqb}
use Rattle.bitset.specs.Code.Members.{IsSetOf}
use Rattle.answers.specs.Rows.{first_of, passed}
use Rattle.job.specs.Before.{named}
use Rattle.job.specs.Refusal.{name_refusal}
use Rattle.job.proofs.job_end.name_refusal.Given as goal

abbrev pub invariant-loop-v : goal.invariant-loop-v
invariant-loop-v l = (p : List ℕ) → IsSetOf l.once (λ u. eqb (named u p) 1) → first_of (name_refusal p) l.v ≡ passed
