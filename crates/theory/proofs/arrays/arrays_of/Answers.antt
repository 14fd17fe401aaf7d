-- `theory::arrays::arrays_of` meets its contract: each array is what its function promises. Assumes nothing.
use mathlib.Core.List.{List}
use mathlib.Core.Path.{◌≡◌, sym}
use Prim.Native.Nat.{ℕ, ◌≤◌}
use native.Mathlib.Omega.{arith}
use lib.ListN.{length}
use lib.Seq.{length-sets}
use Rattle.std.proofs.lemmas.List.{length-take-le, length-replicate}
use Rattle.job.specs.declared.Index.{Index}
use Rattle.job.specs.Code.Index.{places_upto, index_of}
use Rattle.job.specs.Code.WellFormed.{WellFormed}
use Rattle.job.specs.Refusal.{job_refusal}
use Rattle.formulas.proofs.Laws.{grounds}
use Rattle.theory.proofs.Passing.{job_clear, plan_formed, formulas_indexed, formulas_counted, nodes_indexed, nodes_counted}
use Rattle.theory.proofs.Represented.{represents}
use Rattle.theory.proofs.arrays.arrays_of.Goals as goal

-- there are places for all formulas of a job that passes
size : (job : List ℕ) {index : Index} → index ≡ index_of job → length index.formulas.position ≡ 64
unfolding places_upto
size job is = rw (is, length-sets, length-replicate)

fits : (job : List ℕ) {index : Index} → WellFormed job → (job_refusal job).number ≡ 0 → index ≡ index_of job
    → index.formulas.total ≤ length index.formulas.position
fits job formed clear is = omega (arith, formulas_counted job clear is, formed.few_formulas, size job is)

pub shared_ref_as_front-places : goal.shared_ref_as_front-places
shared_ref_as_front-places c =
    let p = c.requires in
    omega (arith, formulas_counted _ (job_clear _ _ p.clear) p.index, (plan_formed _ _ p.clear).few_formulas)

pub slice_bounds-places-end : goal.slice_bounds-places-end
slice_bounds-places-end c =
    let p = c.requires in
    sym (length-take-le _ _ (fits _ (plan_formed _ _ p.clear) (job_clear _ _ p.clear) p.index))

pub standard_values-requires : goal.standard_values-requires
standard_values-requires c =
    let p = c.requires in
    let clear = job_clear _ _ p.clear in
    let formed = plan_formed _ _ p.clear in
    grounds formed (formulas_indexed _ clear p.index) (formulas_counted _ clear p.index) (fits _ formed clear p.index) p.history

pub returns : goal.returns
returns c =
    let p = c.requires in
    let clear = job_clear _ _ p.clear in
    represents _ c.args.starts.now _ (plan_formed _ _ p.clear) (record {
      count = nodes_counted _ clear p.index;
      last = c.last_of.ensures.0;
      places = nodes_indexed _ clear p.index;
      moments = c.start_moments.ensures;
      durations = p.durations;
      values = (c.standard_values.ensures _ p.history).entry;
    })

pub bounds-job-0 : goal.bounds-job-0
bounds-job-0 c = (plan_formed _ _ c.requires.clear).some
