-- In a job that is not refused the words of kind 2 stand directly after the head, and no two of them list one fluent. Assumes nothing.
use mathlib.Core.Bool.{Bool, true, ◌||◌, true≢false, or-true}
use mathlib.Core.List.{List}
use mathlib.Core.Logic.{◌⊎◌, inl, inr, by_cases}
use mathlib.Core.Path.{◌≡◌, sym, ◌∙◌}
use Prim.Native.Nat.{ℕ, zero, suc, ◌/◌, ◌≤◌, ◌<◌}
use native.Mathlib.Decide.{dec_lt}
use native.Mathlib.Omega.{arith}
use borrow.Author.Tests.{eqb-true, eq-eqb, ne_eqb, not-true}
use lib.Dec.{eqb}
use lib.ListN.{length, get_or}
use Rattle.words.specs.Tests.{within}
use Rattle.words.specs.Fields.{kind, fluent_of, role_of}
use Rattle.words.specs.Scan.{any}
use Rattle.words.proofs.Choices.{within-true}
use Rattle.words.proofs.Wide.{no_role}
use Rattle.job.specs.Rules.{same_fluent}
use Rattle.job.specs.Follow.{nothing, set_node}
use Rattle.job.specs.Before.{before, since}
use Rattle.job.specs.Refusal.{job_refusal}
use Rattle.job.specs.Parts.{head_word}
use Rattle.job.proofs.Before.{before-suc}
use Rattle.job.proofs.Follow.{word_before}
use Rattle.job.proofs.Refusal.{tests_passed}
use Rattle.job.proofs.Parts.{follows, rule}

-- the words since one of kind k have word j
since-hit : (t : ℕ → Bool) (k : ℕ) (job : List ℕ) (i j : ℕ) → j < i → t (get_or job j 0) ≡ true → ((m : ℕ) → j ≤ m → m < i → kind (get_or job m 0) ≡ k → ⊥)
    → any t (since k (before job i)) ≡ true
unfolding before since
since-hit t k job zero j l e n = absurd (omega arith)
since-hit t k job (suc i) j l e n =
    rw (ne_eqb _ k (n i (omega arith) (omega arith)))
    (cases (dec_lt j i) (λ m. since-hit t k job i j m e (λ u a b. n u a (omega arith))))
  where
    cases : Dec (j < i) → (j < i → any t (since k (before job i)) ≡ true) → (t (get_or job i 0) || any t (since k (before job i))) ≡ true
    cases (yes m) ih = rw (ih m) (or-true (t (get_or job i 0)))
    cases (no m) ih = let same : j ≡ i = omega arith in rw (← same, e)

module _ (job : List ℕ) (ok : (job_refusal job).number ≡ 0) where
  -- only the first word is of kind 1
  pub one_head : (i : ℕ) → 0 < i → i < length job → kind (get_or job i 0) ≡ 1 → ⊥
  one_head zero p l h = omega arith
  one_head (suc i) p l h =
      cases _ (word_before (get_or job i 0) (before job i)) (rw (before-suc job i) at (follows job ok 1 (suc i) l h))
    where
      cases : (v : ℕ) → (v ≡ kind (get_or job i 0)) ⊎ (v ≡ set_node) → eqb v nothing ≡ true → ⊥
      cases v (inl e) z = let q = eqb-true v nothing z in omega arith
      cases v (inr e) z = let q = eqb-true v nothing z in omega arith

  -- a word of kind 2 follows one of kind 1 or 2
  pub known_after : (i : ℕ) → suc i < length job → kind (get_or job (suc i) 0) ≡ 2 → (1 ≤ kind (get_or job i 0)) × (kind (get_or job i 0) ≤ 2)
  known_after i l h =
      cases _ (word_before (get_or job i 0) (before job i)) (rw (before-suc job i) at (follows job ok 2 (suc i) l h))
    where
      cases : (v : ℕ) → (v ≡ kind (get_or job i 0)) ⊎ (v ≡ set_node) → within 1 2 v ≡ true → (1 ≤ kind (get_or job i 0)) × (kind (get_or job i 0) ≤ 2)
      cases v (inl e) z = let q = within-true 1 2 v z in omega arith
      cases v (inr e) z = let q = within-true 1 2 v z in omega arith

  -- so from one of kind 2 back to the head all are
  pub known_front : (i : ℕ) → i < length job → kind (get_or job i 0) ≡ 2 → (j : ℕ) → 0 < j → j ≤ i → kind (get_or job j 0) ≡ 2
  known_front zero l h j p m = absurd (omega arith)
  known_front (suc i) l h j p m = by_cases (dec_lt j (suc i)) (earlier (known_front i (omega arith)) (known_after i l h)) (λ n. let e : j ≡ suc i = omega arith in rw e h)
    where
      earlier : (kind (get_or job i 0) ≡ 2 → (j : ℕ) → 0 < j → j ≤ i → kind (get_or job j 0) ≡ 2) → (1 ≤ kind (get_or job i 0)) × (kind (get_or job i 0) ≤ 2)
          → j < suc i → kind (get_or job j 0) ≡ 2
      earlier ih b n =
          by_cases (dec_lt 1 (kind (get_or job i 0))) (λ two. ih (omega arith) j p (omega arith))
          (λ one. absurd (one_head i (omega arith) (omega arith) (omega arith)))

  bare : (i : ℕ) → i < length job → kind (get_or job i 0) ≡ 2 → role_of (head_word job) (get_or job i 0) / 2 ≡ 0
  bare i l h = no_role (head_word job) (get_or job i 0) (tests_passed _ _ _ (rule job ok 2 i l h)).0

  -- the fluent of one of kind 2 is listed by no earlier one
  fresh : (i j : ℕ) → j < i → i < length job → kind (get_or job i 0) ≡ 2 → kind (get_or job j 0) ≡ 2
      → fluent_of (head_word job) (get_or job j 0) ≡ fluent_of (head_word job) (get_or job i 0) → ⊥
  fresh i j l m hi hj e =
      let listed = not-true _ (tests_passed _ _ _ (rule job ok 2 i m hi)).2 in
      true≢false (sym (since-hit (same_fluent (head_word job) (get_or job i 0)) 1 job i j l same (λ u a b k. later u a b k)) ∙ listed)
    where
      later : (u : ℕ) → j ≤ u → u < i → kind (get_or job u 0) ≡ 1 → ⊥
      later zero a b k = let z : j ≡ 0 = omega arith in omega (arith, k, rw z at hj)
      later (suc u) a b k = one_head (suc u) (omega arith) (omega arith) k

      same : same_fluent (head_word job) (get_or job i 0) (get_or job j 0) ≡ true
      same =
          rw (
            eq-eqb (kind (get_or job j 0)) (kind (get_or job i 0)) (hj ∙ sym hi),
            bare j (omega arith) hj,
            bare i m hi,
            eq-eqb (fluent_of (head_word job) (get_or job j 0)) (fluent_of (head_word job) (get_or job i 0)) e,
          )

  pub known_once : (i j : ℕ) → i < length job → j < length job → kind (get_or job i 0) ≡ 2 → kind (get_or job j 0) ≡ 2
      → fluent_of (head_word job) (get_or job i 0) ≡ fluent_of (head_word job) (get_or job j 0) → i ≡ j
  known_once i j l m hi hj e = cases (dec_lt i j) (dec_lt j i)
    where
      cases : Dec (i < j) → Dec (j < i) → i ≡ j
      cases (yes a) b = absurd (fresh j i a m hj hi e)
      cases (no a) (yes b) = absurd (fresh i j b l hi hj (sym e))
      cases (no a) (no b) = omega arith
