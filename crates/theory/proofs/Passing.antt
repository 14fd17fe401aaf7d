-- What a job has that rows 1 to 5 pass, with its index of all its words, and a plan that the rows on starts pass. Assumes nothing.
use mathlib.Core.List.{List}
use mathlib.Core.Path.{◌≡◌}
use Prim.Native.Nat.{ℕ, ◌≤◌}
use native.Mathlib.Omega.{arith}
use lib.ListN.{length}
use Rattle.job.specs.declared.Index.{Index}
use Rattle.job.specs.Refusal.{job_refusal}
use Rattle.job.specs.Code.Index.{places_upto, index_of}
use Rattle.words.specs.Fields.{fact_room}
use Rattle.job.specs.Parts.{head_word, node_count}
use Rattle.job.specs.Code.Parts.{formula_count}
use Rattle.job.specs.Code.WellFormed.{WellFormed, Indexed}
use Rattle.job.proofs.WellFormed.{well_formed}
use Rattle.answers.proofs.Rows.{or_none}
use Rattle.facts.specs.Facts.{facts_of}
use Rattle.facts.proofs.Lists.{facts_fit}
use Rattle.starts.specs.Rows.{starts_refusal}
use Rattle.theory.specs.Answers.{plan_refusal}
use Rattle.job.proofs.WordPositions.{placed, positions-count}

-- a plan that passes the rows of its job and its starts: the job is well formed
pub job_clear : (job starts : List ℕ) → (plan_refusal job starts).number ≡ 0 → (job_refusal job).number ≡ 0
unfolding plan_refusal
job_clear job starts clear = (or_none (job_refusal job) (starts_refusal job starts) clear).0

pub plan_formed : (job starts : List ℕ) → (plan_refusal job starts).number ≡ 0 → WellFormed job
plan_formed job starts clear = well_formed job (job_clear job starts clear)

-- it has no more facts than its head lets it have
pub few_facts : (job starts : List ℕ) → (plan_refusal job starts).number ≡ 0 → length (facts_of job starts) ≤ fact_room (head_word job)
few_facts job starts clear = facts_fit job starts (plan_formed job starts clear)

module _ (job : List ℕ) {index : Index} (clear : (job_refusal job).number ≡ 0) (is : index ≡ index_of job) where
  formed : WellFormed job
  formed = well_formed job clear

  pub actions-indexed : Indexed job 3 index.actions.position
  actions-indexed = rw is (placed job 3 (omega (arith, formed.counted, formed.few_actions)))

  pub formulas_indexed : Indexed job 5 index.formulas.position
  formulas_indexed = rw is (placed job 5 formed.few_formulas)

  pub nodes_indexed : Indexed job 6 index.nodes.position
  nodes_indexed = rw is (placed job 6 formed.few_nodes)

  pub formulas_counted : index.formulas.total ≡ formula_count job
  unfolding places_upto
  formulas_counted = rw is (positions-count 5 job (length job))

  pub nodes_counted : index.nodes.total ≡ node_count job
  unfolding places_upto
  nodes_counted = rw is (positions-count 6 job (length job))
