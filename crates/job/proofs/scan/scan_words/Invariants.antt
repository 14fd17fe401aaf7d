-- The invariant of `job::scan::scan_words`: no word before `i` is refused, and the state and the set of what is listed tell of them.
use mathlib.Core.List.{List}
use mathlib.Core.Path.{◌≡◌}
use Prim.Native.Nat.{ℕ}
use lib.ListN.{get_or}
use Rattle.job.specs.Before.{before}
use Rattle.answers.specs.Rows.{first_of, passed}
use Rattle.job.specs.Refusal.{refusal_of}
use Rattle.job.specs.declared.State.{State}
use Rattle.job.specs.Code.Entries.{Listed}
use Rattle.job.specs.Code.State.{Tied}
use Rattle.job.proofs.scan.scan_words.Given as goal

pub record Scanning (job : List ℕ) (s : State) (rows : List ℕ) (i : ℕ) : Type 0 where
  pub state : Tied (before job i) s
  pub listed : Listed (get_or job 0 0) (before job i) rows
  pub none : first_of (refusal_of job) i ≡ passed

abbrev pub invariant-loop-i : goal.invariant-loop-i
invariant-loop-i l = Scanning l.job l.s l.listed l.i
