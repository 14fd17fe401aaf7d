-- Sums over the numbers below n and over a list, and lists of numbers that are each below n. Assumes nothing.
use mathlib.Core.Path.{◌≡◌, refl, sym, ap, ap₂, ◌∙◌}
use mathlib.Core.List.{List, [], ◌∷◌}
use Prim.Native.Nat.{ℕ, zero, suc, ◌+◌, ◌*◌, ◌≤◌, ◌<◌, zero-le}
use native.Mathlib.Nat.{add-mul, zero-mul, zero-add, add-le-add}
use mathlib.Core.Logic.{by_cases}
use native.Mathlib.Decide.{ℕ_discrete}
use native.Mathlib.Omega.{arith}
use lib.ListN.{length, get_or, length-append}
use borrow.Author.Tests.{eq-eqb, ne_eqb}
use lib.Dec.{eqb}
use Rattle.words.specs.Tests.{indicator}
use Rattle.words.specs.Scan.{count, concat_below}
use Rattle.bitset.specs.Code.Members.{sum_below}
use Rattle.bitset.proofs.Sums.{sum-front}
use Rattle.model.specs.Code.Forms.{Below}

-- the sum of f over a list
unfoldable pub total : (ℕ → ℕ) → List ℕ → ℕ
total f [] = 0
total f (x ∷ xs) = f x + total f xs

-- what stands in a list of numbers below n is below n
pub below_times : {n : ℕ} (q : ℕ) (xs : List ℕ) → Below n xs → 0 < count q xs → q < n
unfolding count
below_times q [] h l = absurd (omega arith)
below_times {n} q (x ∷ xs) h l = by_cases (ℕ_discrete q x) (λ e. rw e h.0) (λ ne. below_times q xs h.1 (rw (ne_eqb q x ne, zero-add) at l))

pub times_at : (xs : List ℕ) (i : ℕ) → i < length xs → 0 < count (get_or xs i 0) xs
unfolding count
times_at [] i l = absurd (omega arith)
times_at (x ∷ xs) zero l = rw (eq-eqb x x refl) (omega arith)
times_at (x ∷ xs) (suc i) l = let h = times_at xs i (omega arith) in omega arith

-- ---- sums below n

pub sum_both : (f g : ℕ → ℕ) {h : ℕ → ℕ} (n : ℕ) → ((i : ℕ) → i < n → h i ≡ f i + g i) → sum_below h n ≡ sum_below f n + sum_below g n
unfolding sum_below
sum_both f g zero e = refl
sum_both f g (suc n) e = omega (arith, sum_both f g n (λ i l. e i (omega arith)), e n (omega arith))

pub sum-zero : {f : ℕ → ℕ} (n : ℕ) → ((i : ℕ) → i < n → f i ≡ 0) → sum_below f n ≡ 0
unfolding sum_below
sum-zero zero h = refl
sum-zero (suc n) h = omega (arith, sum-zero n (λ i l. h i (omega arith)), h n (omega arith))

-- terms that are each at most another; more terms
pub sum-each : {f g : ℕ → ℕ} (n : ℕ) → ((i : ℕ) → i < n → f i ≤ g i) → sum_below f n ≤ sum_below g n
unfolding sum_below
sum-each zero h = zero-le
sum-each (suc n) h = add-le-add (sum-each n (λ i l. h i (omega arith))) (h n (omega arith))

pub sum_more : (f : ℕ → ℕ) (m n : ℕ) → m ≤ n → sum_below f m ≤ sum_below f n
unfolding sum_below
sum_more f m zero h = let none : m ≡ 0 = omega arith in rw none (omega arith)
sum_more f m (suc n) h = by_cases (ℕ_discrete m (suc n)) (λ e. rw e (omega arith)) (λ ne. omega (arith, sum_more f m n (omega arith)))

-- two terms are at most the sum
pub sum_one : (f : ℕ → ℕ) (n i : ℕ) → i < n → f i ≤ sum_below f n
unfolding sum_below
sum_one f zero i l = absurd (omega arith)
sum_one f (suc n) i l =
    by_cases (ℕ_discrete i n) (λ e. omega (arith, ap f e)) (λ ne. omega (arith, sum_one f n i (omega arith)))

pub sum-two : (f : ℕ → ℕ) (n i j : ℕ) → i < j → j < n → f i + f j ≤ sum_below f n
unfolding sum_below
sum-two f zero i j l k = absurd (omega arith)
sum-two f (suc n) i j l k =
    by_cases (ℕ_discrete j n) (λ e. omega (arith, ap f e, sum_one f n i (omega arith))) (λ ne. omega (arith, sum-two f n i j l (omega arith)))

-- only the term at x counts
sum-single : (f : ℕ → ℕ) (x n : ℕ) → x < n → sum_below (λ q. indicator (eqb q x) * f q) n ≡ f x
unfolding sum_below
sum-single f x zero l = absurd (omega arith)
sum-single f x (suc n) l =
    by_cases (ℕ_discrete n x)
    (λ e. let none : sum_below (λ q. indicator (eqb q x) * f q) n ≡ 0 = sum-zero n (λ i k. rw (ne_eqb i x (λ d. omega arith)) (zero-mul (f i))) in
    rw (eq-eqb n x e) (omega (arith, ap f e)))
    (λ ne. rw (ne_eqb n x ne) (omega (arith, sum-single f x n (omega arith))))

-- ---- sums over a list

pub total-cong : {f g : ℕ → ℕ} (xs : List ℕ) → ((q : ℕ) → 0 < count q xs → f q ≡ g q) → total f xs ≡ total g xs
unfolding total count
total-cong [] h = refl
total-cong (x ∷ xs) h = ap₂ ◌+◌ (h x (times_at (x ∷ xs) 0 (omega arith))) (total-cong xs (λ q l. h q (omega arith)))

pub total-mul : (f : ℕ → ℕ) (d : ℕ) (xs : List ℕ) → total (λ q. f q * d) xs ≡ total f xs * d
unfolding total
total-mul f d [] = sym (zero-mul d)
total-mul f d (x ∷ xs) = omega (arith, total-mul f d xs, add-mul (f x) (total f xs) d)

-- each number counts as often as it stands in the list
pub total-times : (f : ℕ → ℕ) (n : ℕ) (xs : List ℕ) → Below n xs → total f xs ≡ sum_below (λ q. count q xs * f q) n
unfolding total count
total-times f n [] h = sym (sum-zero n (λ q l. zero-mul (f q)))
total-times f n (x ∷ xs) h =
    ap₂ ◌+◌ (sym (sum-single f x n h.0)) (total-times f n xs h.1)
    ∙ sym (sum_both (λ q. indicator (eqb q x) * f q) (λ q. count q xs * f q) n (λ q l. add-mul (indicator (eqb q x)) (count q xs) (f q)))

total-sum : (f : ℕ → ℕ) (xs : List ℕ) → sum_below (λ i. f (get_or xs i 0)) (length xs) ≡ total f xs
unfolding total sum_below
total-sum f [] = refl
total-sum f (x ∷ xs) = sum-front (λ i. f (get_or (x ∷ xs) i 0)) (length xs) ∙ ap (λ (s : ℕ). f x + s) (total-sum f xs)

joined_sum : (us : ℕ → List ℕ) (f : ℕ → ℕ) (n : ℕ) → ((i : ℕ) → i < n → length (us i) ≤ f i) → length (concat_below us n) ≤ sum_below f n
unfolding concat_below sum_below
joined_sum us f zero h = zero-le
joined_sum us f (suc n) h = rw length-append (add-le-add (joined_sum us f n (λ i l. h i (omega arith))) (h n (omega arith)))

-- lists one after the other, each no longer than its f
pub joined_le : (us : ℕ → List ℕ) (f : ℕ → ℕ) (xs : List ℕ) → ((i : ℕ) → i < length xs → length (us i) ≤ f (get_or xs i 0))
    → length (concat_below us (length xs)) ≤ total f xs
joined_le us f xs h = rw (total-sum f xs) at (joined_sum us (λ i. f (get_or xs i 0)) (length xs) h)
