-- The task sets of a job that is not refused: members and conditions stand after their set, as many and such as the rules allow.
-- Assumes nothing.
use mathlib.Core.Bool.{Bool, true, false, ◌&&◌, ◌||◌, true≢false, or-false}
use mathlib.Core.List.{List}
use mathlib.Core.Logic.{by_cases}
use mathlib.Core.Path.{◌≡◌, refl, sym, ◌∙◌}
use Prim.Native.Nat.{ℕ, zero, suc, ◌+◌, ◌*◌, ◌≤◌, ◌<◌}
use native.Mathlib.Decide.{dec_lt}
use native.Mathlib.Nat.{add-zero}
use native.Mathlib.Omega.{arith}
use borrow.Author.Tests.{eqb-true, eqb-false, ltb-true, ne_eqb, le-leb, lt-leb}
use lib.Dec.{eqb, leb, ltb}
use lib.ListN.{length, get_or, drop, length-drop}
use lib.Seq.{get_or-drop, drop-drop}
use Rattle.words.specs.Tests.{implies, indicator, within}
use Rattle.words.specs.Fields.{of_kind, kind, form, spare, is_set, member_node, condition_formula, condition_i, condition_j, condition_m, condition_n}
use Rattle.words.specs.Scan.{take_while}
use Rattle.words.proofs.Choices.{both_true, implies_true, true_within, true_upto}
use Rattle.words.proofs.Scan.{take_while-entry, take_while-stop, drop_while-drop}
use Rattle.job.specs.Rules.{condition_shape, condition_range}
use Rattle.job.specs.Follow.{set_node}
use Rattle.job.specs.Before.{before, count_of_kind, since}
use Rattle.job.specs.Refusal.{empty_set, job_refusal}
use Rattle.job.specs.Parts.{member_words, condition_words}
use Rattle.job.specs.Code.WellFormed.{ConditionFormed, SetFormed}
use Rattle.job.proofs.Before.{before_more, latest-more, count-more, count-since-more, count-grows}
use Rattle.job.proofs.Follow.{only_after, set_before}
use Rattle.job.proofs.Refusal.{within-limit, Clear, clear, end_clear}
use Rattle.job.proofs.WordPositions.{IsWord, place_of}
use Rattle.job.proofs.ByPlace.{members_place, conditions_place}
use Rattle.job.proofs.Parts.{follows, rule}

-- n words of kind k from position s on
abbrev Run : List ℕ → ℕ → ℕ → ℕ → Type 0
Run job k s n = (i : ℕ) → i < n → kind (get_or job (s + i) 0) ≡ k

module _ (job : List ℕ) (k : ℕ) (s : ℕ) where
  -- what they add to the counts of kind j, in all and since the last node
  run_since : (j n : ℕ) → (k ≡ 6 → ⊥) → Run job k s n
      → count_of_kind j (since 6 (before job (s + n))) ≡ count_of_kind j (since 6 (before job s)) + n * indicator (eqb k j)
  run_since j zero h r = rw (add-zero s) (omega arith)
  run_since j (suc n) h r =
      let more = count-since-more job (s + n) j 6 in
      let here = r n (omega arith) in
      let e : s + suc n ≡ s + n + 1 = omega arith in
      rw e (more ∙ rw (here, ne_eqb k 6 h) (omega (arith, run_since j n h (λ i l. r i (omega arith)))))

  run_count : (j n : ℕ) → Run job k s n → count_of_kind j (before job (s + n)) ≡ count_of_kind j (before job s) + n * indicator (eqb k j)
  run_count j zero r = rw (add-zero s) (omega arith)
  run_count j (suc n) r =
      let more = count-more job (s + n) j in
      let here = r n (omega arith) in
      let e : s + suc n ≡ s + n + 1 = omega arith in
      rw e (more ∙ rw here (omega (arith, run_count j n (λ i l. r i (omega arith)))))

condition_low : (w : ℕ) → condition_shape w ≡ true → form w ≤ 4
condition_low w = true_upto 4 (form w) (condition_shape w) high
  where
    high : 4 < form w → condition_shape w ≡ false
    high h = rw (lt-leb (form w) 1 (omega arith), le-leb 2 (form w) (omega arith), lt-leb (form w) 3 (omega arith), ne_eqb (form w) 4 (λ z. omega arith))

-- a set that is the last word is refused
no_empty : (job : List ℕ) (at : ℕ) → kind (get_or job at 0) ≡ 6 → form (get_or job at 0) ≡ 8 → count_of_kind 7 (since 6 (before job (at + 1))) ≡ 0
    → empty_set (before job (at + 1)) ≡ false → ⊥
no_empty job at k f none e = true≢false (sym (rw (latest-more job at 6, k, f, none)) ∙ e)

-- a condition that names no second member has 0 there
second : (w n : ℕ) → condition_shape w ≡ true → implies (leb (form w) 1 || eqb (form w) 4) (ltb (condition_j w) n) ≡ true → 0 < n → condition_j w < n
second w n s r some = cases (leb (form w) 1) (eqb (form w) 4) refl refl
  where
    cases : (a b : Bool) → leb (form w) 1 ≡ a → eqb (form w) 4 ≡ b → condition_j w < n
    cases true b e f = ltb-true (condition_j w) n (rw e at r)
    cases false true e f = ltb-true (condition_j w) n (rw (e, f) at r)
    cases false false e f =
        let z = eqb-true (condition_j w) 0 (both_true (within 2 3 (form w)) (spare w 14 12) (sym (or-false (within 2 3 (form w) && spare w 14 12)) ∙ rw (e, f) at s)).1 in
        omega arith

module _ (job : List ℕ) (ok : (job_refusal job).number ≡ 0) {p at : ℕ} (node : IsWord job 6 p at) (set : form (get_or job at 0) ≡ 8) where
  c : Clear job
  c = clear job ok

  m : ℕ
  m = length (take_while (of_kind 7) (drop (at + 1) job))

  members_are : member_words job p ≡ take_while (of_kind 7) (drop (at + 1) job)
  members_are = members_place job p at (place_of node)

  conditions_are : condition_words job p ≡ take_while (of_kind 8) (drop (at + 1 + m) job)
  unfolding m
  conditions_are = conditions_place job p at (place_of node) ∙ rw (drop_while-drop (of_kind 7) (drop (at + 1) job), drop-drop)

  -- a word of a run that leads what follows position s
  led : (k s i : ℕ) → i < length (take_while (of_kind k) (drop s job))
      → (get_or (take_while (of_kind k) (drop s job)) i 0 ≡ get_or job (s + i) 0) × (kind (get_or job (s + i) 0) ≡ k) × (s + i < length job)
  led k s i h =
      let r = take_while-entry (of_kind k) (drop s job) i h in
      let e = get_or-drop s job i 0 in
      (r.0 ∙ e, eqb-true (kind (get_or job (s + i) 0)) k (rw e at r.1), omega (arith, r.2, length-drop s job))

  run : (k s : ℕ) → Run job k s (length (take_while (of_kind k) (drop s job)))
  run k s i h = (led k s i h).1

  -- the counts at the set's first word after it
  start_since : (j : ℕ) → count_of_kind j (since 6 (before job (at + 1))) ≡ 0
  start_since j = count-since-more job at j 6 ∙ rw node.of_kind_lem

  start_nodes : count_of_kind 6 (before job (at + 1)) ≡ p + 1
  start_nodes = count-more job at 6 ∙ rw (node.of_kind_lem, node.numbered)

  -- what the rule of its kind says of member i
  member : (i : ℕ) → i < m → (i < 4) × (member_node (get_or job (at + 1 + i) 0) < p)
  unfolding m
  member i h =
      let w = led 7 (at + 1) i h in
      let q = before job (at + 1 + i) in
      let g = within-limit 4 (count_of_kind 7 (since 6 q)) _ (ltb (member_node (get_or job (at + 1 + i) 0) + 1) (count_of_kind 6 q)) (rule job ok 7 (at + 1 + i) w.2 w.1) in
      let sofar : Run job 7 (at + 1) i = λ j l. (led 7 (at + 1) j (omega arith)).1 in
      let members = run_since job 7 (at + 1) 7 i (λ z. omega arith) sofar in
      let nodes = run_count job 7 (at + 1) 6 i sofar in
      (omega (arith, g.1, members, start_since 7), omega (arith, nodes, start_nodes, ltb-true (member_node (get_or job (at + 1 + i) 0) + 1) (count_of_kind 6 q) g.2))

  few_members : m ≤ 4
  few_members = by_cases (dec_lt 4 m) (λ h. absurd (let z = member 4 h in omega (arith, z.0))) (λ h. omega arith)

  -- the set is not the last word, and what follows it is a member
  some_members : 0 < m
  unfolding m
  some_members = by_cases (dec_lt 0 m) (λ h. h) (λ h. absurd (none (omega arith)))
    where
      -- only a member follows a set
      next : m ≡ 0 → at + 1 < length job → ⊥
      next z l =
          let is-set : is_set (get_or job at 0) ≡ true = rw (node.of_kind_lem, set) in
          let w = get_or job (at + 1) 0 in
          let stop = take_while-stop (of_kind 7) (drop (at + 1) job) (omega (arith, length-drop (at + 1) job)) in
          let other : eqb (kind w) 7 ≡ false = rw (z, get_or-drop, add-zero) at stop in
          let may = follows job ok (kind w) (at + 1) l refl in
          eqb-false (kind w) 7 other (only_after 7 set_node refl (kind w) (rw (before_more job at, set_before (get_or job at 0) (before job at) is-set) at may))

      -- and the last node's set has members
      ends : m ≡ 0 → (at + 1 < length job → ⊥) → ⊥
      ends z l =
          let e : length job ≡ at + 1 = omega (arith, node.inside) in
          no_empty job at node.of_kind_lem set (start_since 7) (rw e at (end_clear job c).filled)

      none : m ≡ 0 → ⊥
      none z = by_cases (dec_lt (at + 1) (length job)) (next z) (ends z)

  -- what the rule of its kind says of condition i
  condition : (i : ℕ) → i < length (take_while (of_kind 8) (drop (at + 1 + m) job)) → (i < 8) × ConditionFormed job m (get_or job (at + 1 + m + i) 0)
  unfolding m
  condition i h =
      let pos = at + 1 + m + i in
      let w = get_or job pos 0 in
      let a = led 8 (at + 1 + m) i h in
      let q = before job pos in
      let n = count_of_kind 7 (since 6 q) in
      let forms = count_of_kind 5 q in
      let g = within-limit 8 (count_of_kind 8 (since 6 q)) (condition_shape w) (condition_range forms n w) (rule job ok 8 pos a.2 a.1) in
      let members : Run job 7 (at + 1) m = run 7 (at + 1) in
      let sofar : Run job 8 (at + 1 + m) i = λ j l. (led 8 (at + 1 + m) j (omega arith)).1 in
      let sevens = run_since job 7 (at + 1) 7 m (λ z. omega arith) members in
      let eights = run_since job 7 (at + 1) 8 m (λ z. omega arith) members in
      let sevens2 = run_since job 8 (at + 1 + m) 7 i (λ z. omega arith) sofar in
      let eights2 = run_since job 8 (at + 1 + m) 8 i (λ z. omega arith) sofar in
      let same : n ≡ m = omega (arith, sevens, sevens2, start_since 7) in
      let inside = a.2 in
      let low = condition_low w g.0 in
      let f = implies (within 2 4 (form w)) (ltb (condition_formula w) forms) in
      let x = ltb (condition_i w) n in
      let y = implies (leb (form w) 1 || eqb (form w) 4) (ltb (condition_j w) n) in
      let win = implies (leb (form w) 3) (leb (condition_m w) (condition_n w)) in
      let r1 = both_true (f && x && y) win g.2 in
      let r2 = both_true (f && x) y r1.0 in
      let r3 = both_true f x r2.0 in (
        omega (arith, g.1, eights, eights2, start_since 8),
        record {
          forms = low;
          formula = λ h. omega (arith, count-grows 5 job pos (length job) (omega arith), ltb-true (condition_formula w) forms (implies_true (within 2 4 (form w)) (ltb (condition_formula w) forms) r3.0 (true_within 2 4 (form w) h low)));
          first = omega (arith, same, ltb-true (condition_i w) n r3.1);
          second = omega (arith, same, second w n g.0 r2.1 (omega (arith, same, some_members)));
        },
      )

  few_conditions : length (take_while (of_kind 8) (drop (at + 1 + m) job)) ≤ 8
  few_conditions = by_cases (dec_lt 8 (length (take_while (of_kind 8) (drop (at + 1 + m) job)))) (λ h. absurd (let z = condition 8 h in omega (arith, z.0))) (λ h. omega arith)

  pub set-formed : SetFormed job p
  unfolding m
  set-formed =
      record {
        some_members = rw members_are some_members;
        few_members = rw members_are few_members;
        lower = rw members_are (λ i h. rw (led 7 (at + 1) i h).0 (member i h).1);
        few_conditions = rw conditions_are few_conditions;
        condition = rw (members_are, conditions_are) (λ i h. rw (led 8 (at + 1 + m) i h).0 (condition i h).1);
      }
