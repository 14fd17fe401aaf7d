-- Laws of what words list. An entry's number stands for the fluent or for the pair that a word lists (`fluent_entry`, `pair_entry`). A kind
-- that lists something follows only itself and the kind one below (`run`), so that the words since one of that kind are the run directly
-- before: a word of the same kind adds its entry to the set, and any other word ends the run and empties it (`listed_more`). Assumes nothing.
use mathlib.Core.Bool.{Bool, true, false, cond, ◌&&◌, ◌||◌}
use mathlib.Core.List.{List, ◌∷◌}
use mathlib.Core.Logic.{◌⊎◌, inl, inr, ⊎_elim}
use mathlib.Core.Path.{◌≡◌, refl, ap, sym, ◌∙◌}
use Prim.Native.Nat.{ℕ, ◌+◌, ◌-◌, ◌*◌, ◌/◌, ◌%◌, ◌≤◌, ◌<◌}
use native.Mathlib.Decide.{ℕ_discrete}
use native.Mathlib.Omega.{arith}
use borrow.Author.Tests.{eqb-true, eq-eqb, ne_eqb}
use lib.Dec.{eqb}
use lib.ListN.{get_or, replicate}
use Rattle.words.specs.Tests.{within}
use Rattle.words.specs.Fields.{kind, wide, role_of, fluent_of, group_number, group_action}
use Rattle.words.specs.Scan.{any}
use Rattle.words.proofs.Choices.{is_false, both_true, cond-all, same_test, eqb_swap, within-true}
use Rattle.words.proofs.Lists.{each_of}
use Rattle.words.proofs.Scan.{any-agree}
use Rattle.bitset.proofs.Bools.{or_cases}
use Rattle.bitset.proofs.Digits.{has-zero}
use Rattle.bitset.proofs.In.{empty_entry}
use Rattle.job.specs.Rules.{same_fluent}
use Rattle.job.specs.Parts.{lists_in}
use Rattle.job.specs.Before.{before, since}
use Rattle.job.specs.Follow.{predecessor, may_follow}
use Rattle.job.specs.Code.Entries.{lists, entry_of, same_entry, has_entry, Stored, Listed}
use Rattle.job.proofs.Follow.{word_before}

-- two numbers made of two parts each are equal exactly where the parts are
parts_test : (n a b c d : ℕ) → (a * n + b ≡ c * n + d → (a ≡ c) × (b ≡ d)) → (eqb a c && eqb b d) ≡ eqb (a * n + b) (c * n + d)
parts_test n a b c d apart =
    same_test (eqb a c && eqb b d) (eqb (a * n + b) (c * n + d))
    (λ h. let (p, q) = both_true (eqb a c) (eqb b d) h in eq-eqb (a * n + b) (c * n + d) (rw (eqb-true a c p, eqb-true b d q)))
    (λ h. let (p, q) = apart (eqb-true (a * n + b) (c * n + d) h) in rw (eq-eqb a c p, eq-eqb b d q))

fluent_small : (head w : ℕ) → fluent_of head w < 256
fluent_small head w = cond-all (λ f. f < 256) (wide head) (omega arith) (omega arith)

-- what a word lists, by its kind
module _ (head w : ℕ) (S : List ℕ) where
  pub fluent_entry : {k : ℕ} → kind w ≡ k → (k ≡ 14 → ⊥) → any (same_fluent head w) S ≡ any (same_entry head w) S
  fluent_entry e n = any-agree (same_fluent head w) (same_entry head w) (each_of S (λ i l. same (get_or S i 0)))
    where
      same : (v : ℕ) → same_fluent head w v ≡ same_entry head w v
      same v = cases (eqb (kind v) (kind w)) refl
        where
          cases : (t : Bool) → eqb (kind v) (kind w) ≡ t → same_fluent head w v ≡ same_entry head w v
          cases false q = rw q
          cases true q =
              let l = fluent_small head v in
              let m = fluent_small head w in
              rw (q, ne_eqb (kind w) 14 (λ z. n (sym e ∙ z)), ne_eqb (kind v) 14 (λ z. n (sym e ∙ sym (eqb-true (kind v) (kind w) q) ∙ z)))
              (parts_test 256 (role_of head v / 2) (fluent_of head v) (role_of head w / 2) (fluent_of head w) (λ z. (omega arith, omega arith))
              ∙ eqb_swap (role_of head v / 2 * 256 + fluent_of head v) (role_of head w / 2 * 256 + fluent_of head w))

  pub pair_entry : kind w ≡ 14 → any (lists_in (group_number w) (group_action w)) S ≡ any (same_entry head w) S
  pair_entry e = any-agree (lists_in (group_number w) (group_action w)) (same_entry head w) (each_of S (λ i l. same (get_or S i 0)))
    where
      same : (v : ℕ) → lists_in (group_number w) (group_action w) v ≡ same_entry head w v
      same v = rw e (cases (eqb (kind v) 14) refl)
        where
          cases : (t : Bool) → eqb (kind v) 14 ≡ t
              → (t && (eqb (group_number w) (group_number v) && eqb (group_action w) (group_action v)))
              ≡ (t && eqb (group_number w * 64 + group_action w) (cond t (group_number v * 64 + group_action v) (role_of head v / 2 * 256 + fluent_of head v)))
          cases false q = refl
          cases true q = parts_test 64 (group_number w) (group_action w) (group_number v) (group_action v) (λ z. (omega arith, omega arith))

-- the kinds that list something, and that the code names
abbrev Kinds : ℕ → Type 0
Kinds k = (k ≡ 2) ⊎ ((k ≡ 4) ⊎ (k ≡ 14))

true_lists : (k : ℕ) → lists k ≡ true → Kinds k
true_lists k l =
    ⊎_elim (⊎_elim (λ e. inl (eqb-true k 2 e)) (λ e. inr (inl (eqb-true k 4 e)))) (λ e. inr (inr (eqb-true k 14 e)))
    (⊎_elim (λ e. inl (or_cases (eqb k 2) (eqb k 4) e)) inr (or_cases (eqb k 2 || eqb k 4) (eqb k 14) l))

pub lists-false : (k : ℕ) → (Kinds k → ⊥) → lists k ≡ false
lists-false k n = is_false (lists k) (λ l. n (true_lists k l))

-- such a kind follows only itself and the kind one below, which lists nothing
record Run (k v : ℕ) : Type 0 where
  some : 0 < k
  few : k ≤ 14
  opened : lists (k - 1) ≡ false
  low : k - 1 ≤ v
  high : v ≤ k

run : (k v : ℕ) → lists k ≡ true → may_follow k v ≡ true → Run k v
run k v l f =
    ⊎_elim (λ e. at 2 e (omega arith) (omega arith) refl (λ h. h))
    (⊎_elim (λ e. at 4 e (omega arith) (omega arith) refl (λ h. h)) (λ e. at 14 e (omega arith) (omega arith) refl (λ h. h)))
    (true_lists k l)
  where
    at : (m : ℕ) → k ≡ m → 0 < m → m ≤ 14 → lists (m - 1) ≡ false → (may_follow m v ≡ true → within (m - 1) m v ≡ true) → Run k v
    at m e some few opened may =
        let (low, high) = within-true (m - 1) m v (may (rw e at f)) in
        rw e (record { some = some; few = few; opened = opened; low = low; high = high })

-- the set before the first word, and after one word more, which may follow the others
pub listed_none : (head : ℕ) (job : List ℕ) → Listed head (before job 0) (replicate 16 0)
unfolding before since
listed_none head job = record { size = refl; entry = λ w l f. rw (empty_entry 16 (entry_of head w / 64)) (has-zero (entry_of head w % 64)) }

module _ {head v : ℕ} {p old new : List ℕ} where
  pub listed_more : Listed head p old → may_follow (kind v) (predecessor p) ≡ true → Stored head v old new → Listed head (v ∷ p) new
  unfolding since
  listed_more h f stored = record {
    size = stored.size;
    entry = λ w l g. stored.entry (entry_of head w) ∙ cases w l (run (kind w) (predecessor (v ∷ p)) l g) (ℕ_discrete (kind v) (kind w));
  }
    where
      cases : (w : ℕ) → lists (kind w) ≡ true → Run (kind w) (predecessor (v ∷ p)) → Dec (kind v ≡ kind w)
          → (lists (kind v) && (eqb (entry_of head w) (entry_of head v) || has_entry old (entry_of head w))) ≡ any (same_entry head w) (since (kind w - 1) (v ∷ p))
      cases w l r (yes e) =
          rw (ne_eqb (kind v) (kind w - 1) (λ z. let s = r.some in omega arith), eq-eqb (kind v) (kind w) e, ap lists e ∙ l, h.entry w l (rw e at f))
      cases w l r (no n) =
          let e : kind v ≡ kind w - 1 = ⊎_elim (λ z. omega arith) (λ z. absurd (let s = r.high in let t = r.few in omega arith)) (word_before v p) in
          rw (eq-eqb (kind v) (kind w - 1) e, ap lists e ∙ r.opened)

pub stored_none : {head v : ℕ} {old : List ℕ} → lists (kind v) ≡ false → Stored head v old (replicate 16 0)
stored_none l = record { size = refl; entry = λ n. rw (l, empty_entry 16 (n / 64)) (has-zero (n % 64)) }
