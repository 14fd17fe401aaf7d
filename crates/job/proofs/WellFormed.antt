-- A job that is not refused is well formed. Assumes nothing.
use mathlib.Core.List.{List}
use mathlib.Core.Logic.{by_cases}
use mathlib.Core.Path.{◌≡◌, ap, sym, ◌∙◌}
use Prim.Native.Nat.{ℕ}
use native.Mathlib.Decide.{ℕ_discrete}
use native.Mathlib.Omega.{arith}
use borrow.Author.Tests.{eqb-false, ltb-true}
use lib.ListN.{get_or}
use Rattle.words.specs.Fields.{form}
use Rattle.words.proofs.Wide.{fluents-most}
use Rattle.words.proofs.Choices.{both_true}
use Rattle.answers.proofs.Rows.{first_none}
use Rattle.job.specs.Before.{named}
use Rattle.job.specs.Refusal.{name_refusal, job_refusal}
use Rattle.job.specs.Parts.{total, node_word}
use Rattle.job.specs.Code.WellFormed.{WellFormed}
use Rattle.job.proofs.Before.{not_once}
use Rattle.job.proofs.Refusal.{tests_passed, few, limits_formulas, limits_nodes, clear}
use Rattle.job.proofs.Parts.{size, ranges, rule, ends, word, word_at, lasts, formula, node}
use Rattle.job.proofs.Known.{known_front, known_once}
use Rattle.job.proofs.TaskSets.{set-formed}

-- a node that gives no number is named exactly once
named-once : (p : List ℕ) (v : ℕ) → name_refusal p v ≡ 0 → named v p ≡ 1
named-once p v e = by_cases (ℕ_discrete (named v p) 1) (λ q. q) (λ n. absurd (omega (arith, not_once p v n)))

pub well_formed : (job : List ℕ) → (job_refusal job).number ≡ 0 → WellFormed job
unfolding node_word
well_formed job ok =
    let s = size job ok in
    let r = ranges job ok in
    let e = ends job ok in
    let words = (clear job ok).words in
    let nodes = few job words 6 (limits_nodes job words) in
    let none = eqb-false (total 6 job) 0 e.some in
    record {
      some = s.0;
      short = s.1;
      some_fluents = r.0.0;
      few_fluents = fluents-most (get_or job 0 0);
      fluents-by_head = r.0.1;
      some_actions = r.1.0;
      few_actions = r.1.1;
      few_moments = r.2;
      known = λ i l h. ltb-true _ _ (tests_passed _ _ _ (rule job ok 2 i l h)).1;
      known_front = known_front job ok;
      known_once = known_once job ok;
      counted = e.counted;
      lasting = λ a l. lasts job ok (word job ok 3 a (rw e.counted l)).1;
      law = λ i l h. ltb-true _ _ (tests_passed _ _ _ (rule job ok 4 i l h)).1;
      group = λ i l h. ltb-true _ _ (tests_passed _ _ _ (rule job ok 13 i l h)).1;
      group_member = λ i l h. ltb-true _ _ (both_true _ _ (both_true _ _ (tests_passed _ _ _ (rule job ok 14 i l h)).1).0).0;
      few_formulas = few job words 5 (limits_formulas job words);
      formula = λ k l. formula job ok (word job ok 5 k l).1;
      some_nodes = omega arith;
      few_nodes = nodes;
      node = λ p l. node job ok (word job ok 6 p l).1;
      set = λ p l f. let w = word job ok 6 p l in set-formed job ok w.1 (sym (word_form p w.0 (word_at job ok 6 p w.0 w.1)) ∙ f);
      once = λ v l. named-once _ v (first_none _ _ e.named v (omega arith));
    }
  where
    word_form : (p i : ℕ) → node_word job p ≡ get_or job i 0 → form (node_word job p) ≡ form (get_or job i 0)
    word_form p i e = ap form e
