-- Laws of the facts of the words before: one word more, one less, and bounds. Assumes nothing.
use mathlib.Core.Bool.{Bool, true, false, cond, ◌||◌}
use mathlib.Core.List.{List, [], ◌∷◌}
use mathlib.Core.Path.{◌≡◌, refl, ap}
use Prim.Native.Nat.{ℕ, zero, suc, ◌+◌, ◌-◌, ◌≤◌, ◌<◌}
use native.Mathlib.Decide.{le_ind}
use native.Mathlib.Numerals.{add-one}
use native.Mathlib.Omega.{arith}
use borrow.Author.Tests.{ne_eqb}
use lib.Dec.{eqb}
use lib.ListN.{length, get_or}
use Rattle.words.specs.Tests.{indicator}
use Rattle.words.specs.Fields.{kind}
use Rattle.words.specs.Scan.{any, count}
use Rattle.job.specs.Children.{word_children}
use Rattle.job.specs.Before.{before, count_of_kind, since, latest, named}
use Rattle.job.specs.Refusal.{name_refusal}
use Rattle.job.specs.Code.State.{Tied}
use Rattle.words.proofs.Choices.{indicator-le, cond-all}
use Rattle.bitset.proofs.Digits.{has-zero}

pub before-suc : (job : List ℕ) (i : ℕ) → before job (suc i) ≡ get_or job i 0 ∷ before job i
unfolding before
before-suc job i = refl

pub before_more : (job : List ℕ) (i : ℕ) → before job (i + 1) ≡ get_or job i 0 ∷ before job i
before_more job i = rw (add-one i) (before-suc job i)

-- the same, going down
pub before-less : (job : List ℕ) (j : ℕ) → 0 < j → before job j ≡ get_or job (j - 1) 0 ∷ before job (j - 1)
before-less job j h = rw (before_more job (j - 1)) at (ap (before job) back)
  where
    back : j ≡ j - 1 + 1
    back = omega arith

pub length_before : (job : List ℕ) (i : ℕ) → length (before job i) ≡ i
unfolding before
length_before job zero = refl
length_before job (suc i) = ap suc (length_before job i)

pub count-le : (k : ℕ) (p : List ℕ) → count_of_kind k p ≤ length p
unfolding count_of_kind
count-le k [] = omega arith
count-le k (w ∷ p) = omega (arith, count-le k p, indicator-le (eqb (kind w) k))

since-le : (k : ℕ) (p : List ℕ) → length (since k p) ≤ length p
unfolding since
since-le k [] = omega arith
since-le k (w ∷ p) = cond-all (λ l. length l ≤ suc (length p)) (eqb (kind w) k) {a = []} {b = w ∷ since k p} (omega arith) (omega (arith, since-le k p))

-- a count of the words before position i, and of those since a word of kind m, is at most i
pub count-before : (k : ℕ) (job : List ℕ) (i : ℕ) → count_of_kind k (before job i) ≤ i
count-before k job i = omega (arith, count-le k (before job i), length_before job i)

pub count-since : (k m : ℕ) (job : List ℕ) (i : ℕ) → count_of_kind k (since m (before job i)) ≤ i
count-since k m job i = omega (arith, count-le k (since m (before job i)), since-le m (before job i), length_before job i)

pub count_none : (job : List ℕ) (k : ℕ) → count_of_kind k (before job 0) ≡ 0
unfolding count_of_kind before
count_none job k = refl

-- Before the first word no node is named.
pub named_none : (job : List ℕ) (v : ℕ) → named v (before job 0) ≡ 0
unfolding named before
named_none job v = refl

-- what one word more makes of each fact
module _ (job : List ℕ) (i : ℕ) where
  pub count-more : (k : ℕ) → count_of_kind k (before job (i + 1)) ≡ count_of_kind k (before job i) + indicator (eqb (kind (get_or job i 0)) k)
  unfolding count_of_kind
  count-more k = rw (before_more job i)

  pub latest-more : (k : ℕ) → latest k (before job (i + 1)) ≡ cond (eqb (kind (get_or job i 0)) k) (get_or job i 0) (latest k (before job i))
  unfolding latest
  latest-more k = rw (before_more job i)

  pub any-more : (t : ℕ → Bool) → any t (before job (i + 1)) ≡ (t (get_or job i 0) || any t (before job i))
  any-more t = rw (before_more job i)

  pub named_more : (v : ℕ) → named v (before job (i + 1)) ≡ named v (before job i) + count v (word_children (get_or job i 0))
  unfolding named
  named_more v = rw (before_more job i)

  pub count-since-more : (k m : ℕ) → count_of_kind k (since m (before job (i + 1)))
      ≡ cond (eqb (kind (get_or job i 0)) m) 0 (count_of_kind k (since m (before job i)) + indicator (eqb (kind (get_or job i 0)) k))
  unfolding since count_of_kind
  count-since-more k m = rw (before_more job i) (cases (eqb (kind (get_or job i 0)) m))
    where
      cases : (t : Bool) → count_of_kind k (cond t [] (get_or job i 0 ∷ since m (before job i)))
          ≡ cond t 0 (count_of_kind k (since m (before job i)) + indicator (eqb (kind (get_or job i 0)) k))
      cases true = refl
      cases false = refl

-- counts only grow
pub count-grows : (k : ℕ) (job : List ℕ) (i n : ℕ) → i ≤ n → count_of_kind k (before job i) ≤ count_of_kind k (before job n)
count-grows k job i =
    le_ind (λ (n : ℕ). count_of_kind k (before job i) ≤ count_of_kind k (before job n)) (omega arith)
    (λ m h ih. rw (← (add-one m)) (omega (arith, count-more job m k)))

pub tied_start : (job : List ℕ) → Tied (before job 0) (record { actions = 0; formulas = 0; nodes = 0; members = 0; conditions = 0; node = 0; groups = 0; names = record { named = 0; again = 0 } })
unfolding before count_of_kind since latest named
tied_start job = record { actions = refl; formulas = refl; nodes = refl; members = refl; conditions = refl; node = refl; groups = has-zero; names = record { named = has-zero; again = has-zero } }

pub not_once : (p : List ℕ) (v : ℕ) → (named v p ≡ 1 → ⊥) → name_refusal p v ≡ 5
unfolding name_refusal
not_once p v h = rw (ne_eqb (named v p) 1 h)
