-- Where the words of a kind stand: the list of positions, one word after the other. Assumes nothing.
use mathlib.Core.Bool.{Bool, true, false, cond}
use mathlib.Core.List.{List, [], ◌∷◌, ◌++◌, append-nil}
use mathlib.Core.Logic.{by_cases}
use mathlib.Core.Path.{◌≡◌, refl, ap, sym, ◌∙◌}
use Prim.Native.Nat.{ℕ, zero, suc, ◌+◌, ◌≤◌, ◌<◌}
use native.Mathlib.Nat.{zero-add}
use native.Mathlib.Numerals.{add-one}
use native.Mathlib.Decide.{ℕ_discrete, dec_lt}
use native.Mathlib.Omega.{arith}
use borrow.Author.Tests.{eq-eqb, ne_eqb}
use lib.Dec.{eqb}
use lib.ListN.{length, get_or, drop, set, replicate, length-append, length-set, get_or-append}
use lib.Seq.{sets, sets-eq, get_or_at}
use Rattle.words.specs.Tests.{indicator}
use Rattle.words.specs.Fields.{of_kind, kind}
use Rattle.words.proofs.Copies.{sets_append}
use Rattle.job.specs.Before.{before, count_of_kind}
use Rattle.words.specs.Scan.{from_nth}
use Rattle.job.specs.Code.Index.{positions, places_upto}
use Rattle.job.specs.Parts.{total, words_from}
use Rattle.job.specs.Code.WellFormed.{Indexed}
use Rattle.job.proofs.Before.{count-more, count_none, count-grows}

module _ (k : ℕ) (job : List ℕ) where
  pub positions-none : positions k job 0 ≡ []
  unfolding positions
  positions-none = refl

  module _ (i : ℕ) where
    pub positions-more : positions k job (i + 1) ≡ positions k job i ++ cond (eqb (kind (get_or job i 0)) k) (i ∷ []) []
    unfolding positions
    positions-more = rw (add-one i)

    pub positions-hit : kind (get_or job i 0) ≡ k → positions k job (i + 1) ≡ positions k job i ++ (i ∷ [])
    positions-hit h = positions-more ∙ rw (eq-eqb _ _ h)

    pub positions-miss : (kind (get_or job i 0) ≡ k → ⊥) → positions k job (i + 1) ≡ positions k job i
    positions-miss h = positions-more ∙ rw (ne_eqb _ _ h, append-nil)

  -- there are as many as words of the kind
  pub positions-count : (i : ℕ) → length (positions k job i) ≡ count_of_kind k (before job i)
  positions-count zero = rw (positions-none, count_none job k)
  positions-count (suc i) = rw (← (add-one i)) (positions-length ∙ ap (λ (n : ℕ). n + indicator (eqb (kind (get_or job i 0)) k)) (positions-count i) ∙ sym (count-more job i k))
    where
      length-pick : (t : Bool) → length (cond t (i ∷ []) []) ≡ indicator t
      length-pick true = refl
      length-pick false = refl

      positions-length : length (positions k job (i + 1)) ≡ length (positions k job i) + indicator (eqb (kind (get_or job i 0)) k)
      positions-length = ap length (positions-more i) ∙ length-append (positions k job i) _ ∙ ap (λ (n : ℕ). length (positions k job i) + n) (length-pick (eqb (kind (get_or job i 0)) k))

-- the array and the number are those of the words of kind k before i
pub record Marked (k : ℕ) (job : List ℕ) (i : ℕ) (array : List ℕ) (size : ℕ) : Type 0 where
  pub long : length array ≡ 64
  pub total : size ≡ length (positions k job i)
  pub entries : array ≡ sets (replicate 64 0) 0 (positions k job i)

module _ (k : ℕ) (job : List ℕ) where
  pub marked_none : Marked k job 0 (replicate 64 0) 0
  marked_none = record { long = refl; total = ap length (sym (positions-none k job)); entries = rw (positions-none k job) }

module _ {k : ℕ} {job : List ℕ} {i : ℕ} {ps : List ℕ} {n : ℕ} (m : Marked k job i ps n) where
  -- a word of the kind finds room, where there are at most 64 up to a later one
  pub room : (upto : ℕ) → i < upto → kind (get_or job i 0) ≡ k → count_of_kind k (before job upto) ≤ 64 → n < 64
  room upto l h few =
      let more : count_of_kind k (before job (i + 1)) ≡ count_of_kind k (before job i) + 1 = rw (eq-eqb _ _ h) at (count-more job i k) in
      omega (arith, m.total, positions-count k job i, more, count-grows k job (i + 1) upto (omega arith))

  pub hit : kind (get_or job i 0) ≡ k → Marked k job (i + 1) (set ps n i) (n + 1)
  hit h =
      let e = positions-hit k job i h in
      record {
        long = rw length-set m.long;
        total = ap (λ (t : ℕ). t + 1) m.total ∙ sym (ap length e ∙ length-append (positions k job i) (i ∷ []));
        entries = rw (m.entries, m.total, e) (rw zero-add at (sym (sets_append (positions k job i) (i ∷ []) (replicate 64 0) 0)));
      }

  pub miss : (kind (get_or job i 0) ≡ k → ⊥) → Marked k job (i + 1) ps n
  miss h = let e = positions-miss k job i h in record { long = m.long; total = rw e m.total; entries = rw e m.entries }

-- position i has word j of kind k
pub record IsWord (job : List ℕ) (k j i : ℕ) : Type 0 where
  pub inside : i < length job
  pub of_kind_lem : kind (get_or job i 0) ≡ k
  pub numbered : count_of_kind k (before job i) ≡ j

-- the position of each word of kind k
pub is_word : (k : ℕ) (job : List ℕ) (i : ℕ) → i ≤ length job → (j : ℕ) → j < length (positions k job i) → IsWord job k j (get_or (positions k job i) j 0)
is_word k job zero l j h = absurd (let e = ap length (positions-none k job) in omega arith)
is_word k job (suc i) l j h = cases (ℕ_discrete (kind (get_or job i 0)) k) (is_word k job i (omega arith) j)
  where
    cases : Dec (kind (get_or job i 0) ≡ k)
        → (j < length (positions k job i) → IsWord job k j (get_or (positions k job i) j 0)) → IsWord job k j (get_or (positions k job (suc i)) j 0)
    cases (no n) ih =
        let e : positions k job (suc i) ≡ positions k job i = rw (add-one i) at (positions-miss k job i n) in
        rw e (ih (rw e at h))
    cases (yes y) ih =
        let e : positions k job (suc i) ≡ positions k job i ++ (i ∷ []) = rw (add-one i) at (positions-hit k job i y) in
        let size = length-append (positions k job i) (i ∷ []) in
        by_cases (dec_lt j (length (positions k job i)))
        (λ m. rw (e, get_or-append (positions k job i) (i ∷ []) 0 j m) (ih m))
        (λ m.
        let last : length (positions k job i) ≡ j = omega (arith, ap length e) in
        rw (e, get_or_at (positions k job i) i [] 0 j last)
        (record { inside = omega arith; of_kind_lem = y; numbered = sym (positions-count k job i) ∙ last }))

-- a count of the words before, with the first word apart
pub count-cons : (k w : ℕ) (ws : List ℕ) (i : ℕ) → count_of_kind k (before (w ∷ ws) (suc i)) ≡ indicator (eqb (kind w) k) + count_of_kind k (before ws i)
unfolding count_of_kind before
count-cons k w ws zero = omega arith
count-cons k w ws (suc i) = omega (arith, count-cons k w ws i)

-- the words from number j of a kind on begin at its position
pub from_position : (k : ℕ) (ws : List ℕ) (i j : ℕ) → i < length ws → kind (get_or ws i 0) ≡ k → count_of_kind k (before ws i) ≡ j
    → from_nth (of_kind k) j ws ≡ drop i ws
unfolding from_nth
from_position k [] i j l h c = absurd (omega arith)
from_position k (w ∷ ws) zero zero l h c = rw (eq-eqb (kind w) k h)
from_position k (w ∷ ws) zero (suc j) l h c = absurd (omega (arith, count_none (w ∷ ws) k))
from_position k (w ∷ ws) (suc i) j l h c = cases (eqb (kind w) k) refl j (rw (count-cons k w ws i) at c) (λ j. from_position k ws i j (omega arith) h)
  where
    cases : (t : Bool) → eqb (kind w) k ≡ t → (j : ℕ) → indicator (eqb (kind w) k) + count_of_kind k (before ws i) ≡ j
        → ((j : ℕ) → count_of_kind k (before ws i) ≡ j → from_nth (of_kind k) j ws ≡ drop i ws) → from_nth (of_kind k) j (w ∷ ws) ≡ drop i ws
    cases true e zero c ih = absurd (let z = rw e at c in omega arith)
    cases true e (suc j) c ih = rw e (ih j (let z = rw e at c in omega arith))
    cases false e zero c ih = rw e (ih zero (let z = rw e at c in omega arith))
    cases false e (suc j) c ih = rw e (ih (suc j) (let z = rw e at c in omega arith))

pub place_of : {job : List ℕ} {k j i : ℕ} → IsWord job k j i → words_from k job j ≡ drop i job
place_of {job} {k} {j} {i} w = from_position k job i j w.inside w.of_kind_lem w.numbered

-- the array of positions
pub in_front : (l : List ℕ) (j : ℕ) → j < length l → length l ≤ 64 → get_or (sets (replicate 64 0) 0 l) j 0 ≡ get_or l j 0
in_front l j h few = rw (sets-eq l (replicate 64 0) 0 (omega arith)) (get_or-append l _ 0 j h)

pub placed : (job : List ℕ) (k : ℕ) → total k job ≤ 64 → Indexed job k (places_upto k job (length job)).position
unfolding places_upto
placed job k few = record { inside = λ j h. (at j h).inside; words = λ j h. place_of (at j h) }
  where
    at : (j : ℕ) → j < total k job → IsWord job k j (get_or (sets (replicate 64 0) 0 (positions k job (length job))) j 0)
    at j h =
        let size = positions-count k job (length job) in
        rw (in_front (positions k job (length job)) j (omega arith) (omega arith)) (is_word k job (length job) (omega arith) j (omega arith))
