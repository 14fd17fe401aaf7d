-- What the table and the writer give of a plan that passes, in the job's own definitions. Assumes nothing.
use mathlib.Core.Bool.{true, false, true≢false}
use mathlib.Core.List.{List}
use mathlib.Core.Path.{◌≡◌, sym, ◌∙◌}
use Prim.Native.Nat.{ℕ, ◌-◌, ◌≤◌, ◌<◌}
use native.Mathlib.Nat.{le_refl}
use native.Mathlib.Omega.{arith}
use lib.ListN.{length}
use Rattle.answers.specs.declared.Answer.TheVariants.{Accepted, Refused}
use Rattle.job.specs.Refusal.{job_refusal}
use Rattle.job.specs.Parts.{node_count, last_moment}
use Rattle.job.specs.Code.WellFormed.{WellFormed}
use Rattle.job.proofs.WellFormed.{well_formed}
use Rattle.theory.specs.Trajectory.{plan_trajectory, trajectory_of}
use Rattle.job.specs.Procedure.{procedure_of}
use Rattle.model.specs.Code.Arrays.{procedure_in, trajectory_in}
use Rattle.model.specs.Code.Represents.{Represents}
use Rattle.model.specs.Code.Table.{end_in}
use Rattle.model.specs.declared.Arrays.{Arrays}
use Rattle.reading.specs.Code.Forms.{Readable}
use Rattle.reading.specs.Code.Table.{Found, Tabulated}
use Rattle.reading.specs.Code.Quiet.{start_in, AllStarts}
use Rattle.reading.proofs.Transfer.{transfer}
use Rattle.reading.proofs.Agreement.{extends, agrees_back, formed_there, found_same, counted_same}
use Rattle.model.proofs.Named.{named-there}
use Rattle.extract.specs.Code.Contract.{Emittable, Emitted}
use Rattle.extract.proofs.Whole.{emittable}
use Rattle.finder.specs.Find.{RootReading, Triples, Searched, unread, read}
use Rattle.finder.proofs.Job.{formed_job, once_job}

module _ (job starts : List ℕ) (w : Arrays) (ok : (job_refusal job).number ≡ 0) (c : Represents job w (procedure_of job) (plan_trajectory job starts)) where
  formed : WellFormed job
  formed = well_formed job ok

  -- how many nodes and moments there are
  count-is : w.count ≡ node_count job
  unfolding procedure_of
  count-is = sym c.agrees.count

  last_is : w.last ≡ last_moment job
  unfolding trajectory_of
  last_is = sym c.agrees.last

  pub readable : Readable (procedure_in job w) (trajectory_in w) (length job) w.places
  unfolding procedure_of
  readable = record {
    few = rw count-is formed.few_nodes;
    moments = let q = last_is in omega (arith, formed.few_moments);
    inside = c.inside;
    formed = formed_there (agrees_back c.agrees) (λ p h. formed_job job starts formed p h);
  }

  pub some_node : 0 < w.count
  some_node = rw count-is formed.some_nodes

  pub few_nodes : w.count ≤ 64
  few_nodes = readable.few

  pub few_moments : w.last < 64
  few_moments = readable.moments

  module _ {table : List ℕ} {r : ℕ} (t : Tabulated (procedure_in job w) (trajectory_in w) table r) where
    triples : Triples job starts r
    triples = counted_same c.agrees readable.formed t.count

    -- the root's last bit is set: the writer may go on
    pub emit_ready : {started size : ℕ} → AllStarts (start_in w.starts) started → end_in table (w.count - 1) 0 w.last ≡ true → 4096 ≤ size
        → Emittable (procedure_in job w) (trajectory_in w) started (length job) w.places table size
    emit_ready mask h l =
        emittable (record { ready = readable; found = t.table; mask = mask }) (named-there c.agrees (once_job job ok)) some_node (record { yes = h }) (omega arith)

    -- what it wrote is a reading of the root
    pub written-reading : {before after : List ℕ} {l : ℕ} → Emitted (procedure_in job w) (trajectory_in w) before after l → Searched job starts before (Accepted l r) after
    written-reading {before} e =
        let some = some_node in
        let whole : RootReading job starts e.words
        = rw (← count-is, ← last_is) (transfer (extends c.agrees) readable.formed (omega arith) (le_refl w.last) e.reading) in
        rw (e.buffer, e.counted) (read {ws = e.words} triples whole)

    -- the root's last bit is not set: no list of words is a reading
    pub no_reading : {before : List ℕ} → end_in table (w.count - 1) 0 w.last ≡ false → Searched job starts before (Refused 13 0 r) before
    no_reading h = unread triples none
      where
        there : Found (procedure_of job) (plan_trajectory job starts) table
        there = found_same c.agrees readable.formed t.table

        none : (ws : List ℕ) → RootReading job starts ws → ⊥
        none ws rr =
            let some = some_node in
            let i = (there.right (w.count - 1) 0 w.last (omega (arith, c.agrees.count)) (omega arith)).1 (omega (arith, c.agrees.last), (ws, rw (count-is, last_is) rr)) in
            true≢false (sym i.yes ∙ h)
