-- The arrays that carry a well-formed job and a plan represent the job's procedure and the plan's trajectory. Assumes nothing.
use mathlib.Core.List.{List, map}
use mathlib.Core.Logic.{inl, inr}
use mathlib.Core.Path.{◌≡◌, refl, sym, ap, ◌∙◌}
use Prim.Native.Nat.{ℕ, zero, suc, ◌*◌, ◌+◌, ◌<◌, ◌≤◌}
use native.Mathlib.Omega.{arith}
use lib.ListN.{get_or}
use Rattle.bitset.specs.Code.Members.{has}
use Rattle.words.specs.Fields.{form, node_x, member_node}
use Rattle.words.specs.Scan.{any}
use Rattle.job.specs.Parts.{actions, last_moment, node_count, node_word, member_words, condition_words}
use Rattle.job.specs.Code.Parts.{formula_count}
use Rattle.job.specs.Code.WellFormed.{WellFormed, Indexed}
use Rattle.job.proofs.ByPlace.{word_place, members_place, conditions_place}
use Rattle.history.specs.Values.{value_at}
use Rattle.history.specs.Code.Tables.{Durations}
use Rattle.formulas.specs.Values.{and_table, or_table, formula_at}
use Rattle.job.specs.Procedure.{procedure_of}
use Rattle.theory.specs.Trajectory.{is_start_of, plan_trajectory, trajectory_of}
use Rattle.model.specs.Procedure.{Procedure}
use Rattle.model.specs.Trajectory.{Trajectory}
use Rattle.model.specs.Forms.{form_number, field_x}
use Rattle.model.specs.Code.Arrays.{members_at, conditions_at, procedure_in, trajectory_in}
use Rattle.model.specs.Code.Represents.{Asks, Agrees, Represents}
use Rattle.model.specs.declared.Arrays.{Arrays}
use Rattle.model.proofs.Forms.{form-number, asks_number}

-- what each array holds, in the definitions of the theory
pub record Held (job starts : List ℕ) (w : Arrays) : Type 0 where
  pub count : w.count ≡ node_count job
  pub last : w.last ≡ last_moment job
  pub places : Indexed job 6 w.places
  pub moments : (a t : ℕ) → has (get_or w.starts a 0) t ≡ any (is_start_of a t) starts
  pub durations : Durations job w.durations
  pub values : (k t : ℕ) → k < formula_count job → t ≤ last_moment job → get_or w.values (k * 64 + t) 0 ≡ formula_at and_table or_table job (value_at job starts) k t

module _ (job starts : List ℕ) (w : Arrays) (formed : WellFormed job) (c : Held job starts w) where
  abbrev P : Procedure
  P = procedure_in job w

  abbrev T : Trajectory
  T = trajectory_in w

  here : {p : ℕ} → p < w.count → p < node_count job
  here h = let q = c.count in omega arith

  -- node p's word, members and conditions are the job's
  module _ (p : ℕ) (h : p < node_count job) where
    node_word_lem : node_word job p ≡ P.node p
    unfolding node_word
    node_word_lem = word_place 6 job p (get_or w.places p 0) (c.places.words p h)

    members_are : member_words job p ≡ members_at job (get_or w.places p 0)
    members_are = members_place job p (get_or w.places p 0) (c.places.words p h)

    conditions_are : condition_words job p ≡ conditions_at job (get_or w.places p 0)
    conditions_are = conditions_place job p (get_or w.places p 0) (c.places.words p h)

    -- an action is the job's, and so is each formula that the node asks for
    action : form (P.node p) ≡ 0 → node_x (P.node p) < actions job
    action = rw node_word_lem at (formed.node p h).action

    asked : (k n : ℕ) → form (P.node p) ≡ n → Asks P (form_number n) p k → k < formula_count job
    asked k zero e a = absurd a
    asked k (suc zero) e a = rw a ((rw node_word_lem at (formed.node p h).formula) (inl e))
    asked k (suc (suc zero)) e a = absurd a
    asked k (suc (suc (suc zero))) e a = absurd a
    asked k (suc (suc (suc (suc zero)))) e a = rw a ((rw node_word_lem at (formed.node p h).formula) (inr (rw e (omega arith), rw e (omega arith))))
    asked k (suc (suc (suc (suc (suc zero))))) e a = rw a ((rw node_word_lem at (formed.node p h).formula) (inr (rw e (omega arith), rw e (omega arith))))
    asked k (suc (suc (suc (suc (suc (suc zero)))))) e a = absurd a
    asked k (suc (suc (suc (suc (suc (suc (suc zero))))))) e a = absurd a
    asked k (suc (suc (suc (suc (suc (suc (suc (suc zero)))))))) e a =
        let s = formed.set p h (ap form node_word_lem ∙ e) in
        rw a.3 (((rw conditions_are at s.condition) a.0 a.1).formula (asks_number _ a.2))
    asked k (suc (suc (suc (suc (suc (suc (suc (suc (suc n))))))))) e a = absurd a

  agrees : Agrees P T (procedure_of job) (plan_trajectory job starts)
  unfolding procedure_of trajectory_of
  agrees = record {
    count = sym c.count;
    last = sym c.last;
    node = λ p h. node_word_lem p (here h);
    members = λ p h. ap (map member_node) (members_are p (here h));
    conditions = λ p h. conditions_are p (here h);
    starts = λ a t. sym (c.moments a t);
    durations = λ p h f. sym (c.durations.entry (field_x P p) (action p (here h) (form-number _ f (omega arith))));
    values = λ p k t h a l. sym (c.values k t (asked p (here h) k (form (P.node p)) refl a) (let q = c.last in omega arith));
  }

  pub represents : Represents job w (procedure_of job) (plan_trajectory job starts)
  represents = record { inside = λ p h. c.places.inside p (here h); agrees = agrees }
