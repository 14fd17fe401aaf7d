-- The parts of a job that is not refused: its head, actions, formulas and nodes. Assumes nothing.
use mathlib.Core.Bool.{true, false, ◌&&◌, ◌||◌, or-true}
use mathlib.Core.List.{List}
use mathlib.Core.Logic.{◌⊎◌, inl, inr}
use mathlib.Core.Path.{◌≡◌, refl}
use Prim.Native.Nat.{ℕ, ◌≤◌, ◌<◌}
use native.Mathlib.Omega.{arith}
use borrow.Author.Tests.{not-false, leb-true, ltb-true, eq-eqb, ne_eqb, le-leb, lt-leb}
use lib.Dec.{eqb, leb, ltb}
use lib.ListN.{length, get_or}
use Rattle.words.specs.Tests.{implies, within}
use Rattle.words.specs.Fields.{kind, form, most_fluents, action_number, duration_of, formula_x, formula_y, atom_fluent, node_x, node_m, node_n}
use Rattle.words.proofs.Choices.{both_true, implies_true, within-true, true_within, true_upto}
use Rattle.answers.proofs.Rows.{row-none}
use Rattle.job.specs.Rules.{formula_shape, formula_range, node_shape, node_range}
use Rattle.job.specs.Children.{node_children}
use Rattle.job.specs.Follow.{nothing, predecessor}
use Rattle.job.specs.Before.{before, count_of_kind}
use Rattle.job.specs.Refusal.{job_refusal}
use Rattle.job.specs.Code.Index.{positions}
use Rattle.job.specs.Parts.{head_word, fluents, actions, last_moment, total, word_of_kind, duration, formula_word, node_word}
use Rattle.job.specs.Code.WellFormed.{FormulaFormed, NodeFormed}
use Rattle.words.specs.Scan.{every}
use Rattle.words.proofs.Scan.{every_true}
use Rattle.job.proofs.Follow.{only_after}
use Rattle.job.proofs.Before.{count-grows}
use Rattle.job.proofs.Refusal.{followed, ruled, tests_passed, within-limit, word_passed, Clear, clear, EndClear, end_clear}
use Rattle.job.proofs.WordPositions.{IsWord, is_word, positions-count, place_of}
use Rattle.job.proofs.ByPlace.{word_place}

-- the forms that a shape allows
formula_low : (hd w : ℕ) → formula_shape hd w ≡ true → form w ≤ 5
formula_low hd w = true_upto 5 (form w) (formula_shape hd w) high
  where
    high : 5 < form w → formula_shape hd w ≡ false
    high h =
        rw (
          ne_eqb (form w) 0 (λ z. omega arith),
          ne_eqb (form w) 1 (λ z. omega arith),
          ne_eqb (form w) 2 (λ z. omega arith),
          le-leb 3 (form w) (omega arith),
          lt-leb (form w) 5 h,
        )

node_low : (w : ℕ) → node_shape w ≡ true → form w ≤ 8
node_low w = true_upto 8 (form w) (node_shape w) high
  where
    high : 8 < form w → node_shape w ≡ false
    high h =
        rw (
          lt-leb (form w) 1 (omega arith),
          le-leb 2 (form w) (omega arith),
          lt-leb (form w) 3 (omega arith),
          ne_eqb (form w) 5 (λ z. omega arith),
          ne_eqb (form w) 4 (λ z. omega arith),
          le-leb 6 (form w) (omega arith),
          lt-leb (form w) 7 (omega arith),
          ne_eqb (form w) 8 (λ z. omega arith),
        )

module _ (job : List ℕ) (ok : (job_refusal job).number ≡ 0) where
  c : Clear job
  c = clear job ok

  pub size : (1 ≤ length job) × (length job ≤ 2048)
  size = within-true 1 2048 (length job) (not-false _ (row-none _ 1 0 (omega arith) c.size))

  -- each word may follow the one before, and the rule of its kind does not refuse it
  pub follows : (k i : ℕ) → i < length job → kind (get_or job i 0) ≡ k → followed job i k ≡ true
  follows k i l h = (word_passed job c.words k i l h).0

  pub rule : (k i : ℕ) → i < length job → kind (get_or job i 0) ≡ k → ruled job i k ≡ 0
  rule k i l h = (word_passed job c.words k i l h).1

  -- word 0 is the head
  pub head : kind (get_or job 0 0) ≡ 1
  unfolding before predecessor
  head = only_after 1 nothing refl (kind (get_or job 0 0)) (follows (kind (get_or job 0 0)) 0 size.0 refl)

  pub ranges : ((1 ≤ fluents job) × (fluents job ≤ most_fluents (head_word job))) × ((1 ≤ actions job) × (actions job ≤ 64)) × (last_moment job ≤ 63)
  ranges =
      let f = within 1 (most_fluents (head_word job)) (fluents job) in
      let a = within 1 64 (actions job) in
      let g = both_true (f && a) (leb (last_moment job) 63) (tests_passed _ _ _ (rule 1 0 size.0 head)).1 in
      let h = both_true f a g.0 in
      (within-true 1 (most_fluents (head_word job)) (fluents job) h.0, within-true 1 64 (actions job) h.1, leb-true (last_moment job) 63 g.1)

  pub ends : EndClear job
  ends = end_clear job c

  -- where word j of a kind stands
  pub word : (k j : ℕ) → j < total k job → (i : ℕ) × IsWord job k j i
  word k j h =
      let size = positions-count k job (length job) in
      (get_or (positions k job (length job)) j 0, is_word k job (length job) (omega arith) j (omega arith))

  -- and what it is
  pub word_at : (k j i : ℕ) → IsWord job k j i → word_of_kind k job j ≡ get_or job i 0
  word_at k j i w = word_place k job j i (place_of w)

  -- an action lasts
  pub lasts : {a i : ℕ} → IsWord job 3 a i → 0 < duration job a
  unfolding duration
  lasts {a} {i} at =
      let w = get_or job i 0 in
      let g = both_true (eqb (action_number w) (count_of_kind 3 (before job i))) (leb 1 (duration_of w)) (tests_passed _ _ _ (rule 3 i at.inside at.of_kind_lem)).1 in
      rw (word_at 3 a i at) (leb-true 1 (duration_of w) g.1)

  pub formula : {k i : ℕ} → IsWord job 5 k i → FormulaFormed job k
  unfolding formula_word
  formula {k} {i} at =
      let w = get_or job i 0 in
      let e = word_at 5 k i at in
      let n = count_of_kind 5 (before job i) in
      let g = within-limit 64 n (formula_shape (head_word job) w) (formula_range (head_word job) n w) (rule 5 i at.inside at.of_kind_lem) in
      let low = formula_low (head_word job) w g.0 in
      let a = implies (eqb (form w) 1) (ltb (atom_fluent (head_word job) w) (fluents job)) in
      let x = implies (within 2 5 (form w)) (ltb (formula_x w) n) in
      let y = implies (within 3 4 (form w)) (ltb (formula_y w) n) in
      let axy = both_true (a && x) y g.2 in
      let ax = both_true a x axy.0 in
      record {
        forms = rw e low;
        fluent = rw e (λ f. ltb-true _ _ (implies_true (eqb (form w) 1) (ltb (atom_fluent (head_word job) w) (fluents job)) ax.0 (eq-eqb (form w) 1 f)));
        lower_x = rw e (λ f. omega (arith, at.numbered, ltb-true (formula_x w) n (implies_true (within 2 5 (form w)) (ltb (formula_x w) n) ax.1 (true_within 2 5 (form w) f low))));
        lower_y = rw e (λ f l. omega (arith, at.numbered, ltb-true (formula_y w) n (implies_true (within 3 4 (form w)) (ltb (formula_y w) n) axy.1 (true_within 3 4 (form w) f l))));
      }

  pub node : {p i : ℕ} → IsWord job 6 p i → NodeFormed job p
  unfolding node_word
  node {p} {i} at =
      let w = get_or job i 0 in
      let f = form w in
      let e = word_at 6 p i at in
      let acts = count_of_kind 3 (before job i) in
      let forms = count_of_kind 5 (before job i) in
      let n = count_of_kind 6 (before job i) in
      let g = within-limit 64 n (node_shape w) (node_range acts forms n w) (rule 6 i at.inside at.of_kind_lem) in
      let low = node_low w g.0 in
      let a = implies (eqb f 0) (ltb (node_x w) acts) in
      let k = implies (eqb f 1 || within 4 5 f) (ltb (node_x w) forms) in
      let below = every (λ q. ltb q n) (node_children w) in
      let win = implies (within 6 7 f) (leb (node_m w) (node_n w)) in
      let r1 = both_true (a && k && below) win g.2 in
      let r2 = both_true (a && k) below r1.0 in
      let r3 = both_true a k r2.0 in
      let inside = at.inside in
      record {
        forms = rw e low;
        action = rw e (λ h. omega (arith, ends.counted, count-grows 3 job i (length job) (omega arith), ltb-true (node_x w) acts (implies_true (eqb f 0) (ltb (node_x w) acts) r3.0 (eq-eqb f 0 h))));
        formula = rw e (λ h. omega (arith, count-grows 5 job i (length job) (omega arith), ltb-true (node_x w) forms (implies_true (eqb f 1 || within 4 5 f) (ltb (node_x w) forms) r3.1 (one_of f h))));
        lower = rw e (λ q h. omega (arith, at.numbered, ltb-true q n (every_true (λ q. ltb q n) (node_children w) r2.1 q h)));
        window = rw e (λ h l. leb-true (node_m w) (node_n w) (implies_true (within 6 7 f) (leb (node_m w) (node_n w)) r1.1 (true_within 6 7 f h l)));
      }
    where
      one_of : (f : ℕ) → (f ≡ 1) ⊎ ((4 ≤ f) × (f ≤ 5)) → (eqb f 1 || within 4 5 f) ≡ true
      one_of f (inl h) = rw (eq-eqb f 1 h)
      one_of f (inr h) = rw (true_within 4 5 f h.0 h.1) (or-true (eqb f 1))
