-- What the reader asks of the procedure of a job that passes: its nodes can be read, and each but the root is named once. How long its readings
-- can be. Assumes nothing.
use mathlib.Core.List.{List}
use mathlib.Core.Path.{◌≡◌}
use Prim.Native.Nat.{ℕ, ◌<◌}
use native.Mathlib.Omega.{arith}
use Rattle.job.specs.Refusal.{job_refusal}
use Rattle.job.specs.Parts.{last_moment, node_count}
use Rattle.job.specs.Procedure.{procedure_of}
use Rattle.job.specs.Code.WellFormed.{WellFormed}
use Rattle.job.proofs.WellFormed.{well_formed}
use Rattle.job.proofs.Procedure.{children-below, members_count}
use Rattle.theory.specs.Trajectory.{plan_trajectory, trajectory_of}
use Rattle.theory.proofs.Naming.{once_by_nodes}
use Rattle.model.specs.Code.Forms.{NamedOnce}
use Rattle.model.proofs.Forms.{form-number}
use Rattle.reading.specs.Code.Forms.{NodeReadable}
use Rattle.lengths.proofs.Words.{lower}
use Rattle.lengths.proofs.Length.{words_4032}
use Rattle.finder.specs.Find.{ReadingsBounded}

pub formed_job : (job starts : List ℕ) → WellFormed job → (p : ℕ) → p < node_count job → NodeReadable (procedure_of job) (plan_trajectory job starts) p
unfolding procedure_of trajectory_of
formed_job job starts formed p h = record {
  lower = children-below job formed p h;
  set = λ f.
      let s = formed.set p h (form-number _ f (omega arith)) in
      let q = members_count job p in
      record {
        some = rw q s.some_members;
        few = rw q s.few_members;
        conditions = s.few_conditions;
        moments = omega (arith, formed.few_moments);
        named = λ i l. rw q ((s.condition i l).first, (s.condition i l).second);
      };
}

pub once_job : (job : List ℕ) → (job_refusal job).number ≡ 0 → NamedOnce (procedure_of job)
unfolding procedure_of
once_job job ok = once_by_nodes job ok

pub readings_bounded : ReadingsBounded
unfolding procedure_of
readings_bounded job starts p b e ws ok l h r =
    let formed = well_formed job ok in
    let soon : last_moment job < 64 = omega (arith, formed.few_moments) in
    words_4032 (lower (formed_job job starts formed)) (once_job job ok) formed.few_nodes soon l h r
