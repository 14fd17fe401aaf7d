-- The members of the table's rows, listed: a table of all readings has as many ends as there are triples that have a reading. Assumes nothing.
use Prim.Native.Nat.{ℕ, zero, suc, ◌+◌, ◌*◌, ◌/◌, ◌%◌, ◌^◌, ◌≤◌, ◌<◌}
use mathlib.Core.Bool.{Bool, true, false, false≢true}
use mathlib.Core.Path.{◌≡◌, refl, sym, ap, ap₂, ◌∙◌, subst}
use mathlib.Core.Logic.{⊎_elim, by_cases}
use mathlib.Core.List.Memᴰ
use mathlib.Core.List.{List, [], ◌∷◌, ◌++◌, Memᴰ}
use native.Mathlib.Decide.{dec_lt}
use native.Mathlib.Omega.{arith}
use lib.ListN.{length, get_or, length-append}
use Rattle.model.specs.Code.Table.{InTable}
use Rattle.words.specs.Tests.{indicator}
use Rattle.bitset.specs.Code.Members.{has, In, count_below, sum_below, pairs, pop_count}
use Rattle.bitset.proofs.Sums.{sum-cong, sum-le}
use Rattle.bitset.proofs.Counts.{count-le}
use Rattle.model.specs.Trajectory.{Trajectory}
use Rattle.model.specs.Procedure.{Procedure}
use Rattle.reading.specs.Code.Table.{Found}
use Rattle.model.specs.declared.Triple.{Triple}
use Rattle.reading.specs.Count.{Distinct, none, more, Read, Counted}
use Rattle.reading.proofs.Step.{onward}

module _ {A : Type 0} where
  -- two lists with nothing in common, one after the other
  distinct_append : {a b : List A} → Distinct a → Distinct b → ((x : A) → Memᴰ x a → Memᴰ x b → ⊥) → Distinct (a ++ b)
  distinct_append none d f = d
  distinct_append (more {x = x} {xs = xs} h c) d f =
      more (λ m. ⊎_elim h (f x (Memᴰ.head refl)) (Memᴰ.append_cases xs m)) (distinct_append c d (λ y m. f y (Memᴰ.tail m)))

  -- f 0 ++ .. ++ f (k - 1)
  gather : (ℕ → List A) → ℕ → List A
  gather f zero = []
  gather f (suc k) = gather f k ++ f k

  module _ (f : ℕ → List A) where
    length-gather : (k : ℕ) → length (gather f k) ≡ sum_below (λ i. length (f i)) k
    unfolding gather sum_below
    length-gather zero = refl
    length-gather (suc k) = length-append (gather f k) (f k) ∙ ap (λ (n : ℕ). n + length (f k)) (length-gather k)

    gathered : {x : A} (k : ℕ) → Memᴰ x (gather f k) → (i : ℕ) × (i < k) × Memᴰ x (f i)
    unfolding gather
    gathered zero m = absurd (Memᴰ.not-nil m)
    gathered {x} (suc k) m = ⊎_elim (λ a. let r : (i : ℕ) × (i < k) × Memᴰ x (f i) = gathered {x = x} k a in (r.0, omega (arith, r.1), r.2)) (λ a. (k, omega arith, a)) (Memᴰ.append_cases (gather f k) m)

    gathers : {x : A} (k i : ℕ) → i < k → Memᴰ x (f i) → Memᴰ x (gather f k)
    unfolding gather
    gathers zero i h m = absurd (omega arith)
    gathers (suc k) i h m =
        by_cases (dec_lt i k) (λ l. Memᴰ.append_left (f k) (gathers k i l m))
        (λ l. Memᴰ.append_right (gather f k) (let q : i ≡ k = omega arith in rw q at m))

    -- where x says at which i it stands, the whole is distinct as the parts are
    distinct_gather : (key : A → ℕ) → ((i : ℕ) (x : A) → Memᴰ x (f i) → key x ≡ i) → ((i : ℕ) → Distinct (f i)) → (k : ℕ) → Distinct (gather f k)
    unfolding gather
    distinct_gather key at d zero = none
    distinct_gather key at d (suc k) =
        distinct_append (distinct_gather key at d k) (d k)
        (λ x a b. let r = gathered k a in omega (arith, r.1, at r.0 x r.2, at k x b))

  -- x where the test is true
  only : Bool → A → List A
  only true x = x ∷ []
  only false x = []

  length-only : (t : Bool) (x : A) → length (only t x) ≡ indicator t
  unfolding only
  length-only true x = refl
  length-only false x = refl

  distinct_only : (t : Bool) (x : A) → Distinct (only t x)
  unfolding only
  distinct_only true x = more Memᴰ.not-nil none
  distinct_only false x = none

  picked : {y : A} (t : Bool) (x : A) → Memᴰ y (only t x) → (t ≡ true) × (y ≡ x)
  unfolding only
  picked true x m = (refl, Memᴰ.eq_of_singleton m)
  picked false x m = absurd (Memᴰ.not-nil m)

  picks : (t : Bool) (x : A) → t ≡ true → Memᴰ x (only t x)
  unfolding only
  picks true x e = Memᴰ.head refl
  picks false x e = absurd (false≢true e)

-- how many pass a test, as a sum
count-sum : (p : ℕ → Bool) (n : ℕ) → count_below p n ≡ sum_below (λ e. indicator (p e)) n
unfolding count_below sum_below
count-sum p zero = refl
count-sum p (suc n) = ap (λ (k : ℕ). k + indicator (p n)) (count-sum p n)

pairs-le : (t : List ℕ) → pairs t ≤ length t * 64
unfolding pairs
pairs-le t = sum-le (length t) 64 (λ i l. count-le (has (get_or t i 0)) 64)

-- the count fits 24 bits
pub pairs_small : {P : Procedure} {T : Trajectory} {t : List ℕ} → Found P T t → pairs t < 2 ^ 24
pairs_small {t = t} h = omega (arith, pairs-le t, h.size)

-- the triples of a table: those of entry i, and of member e of it
triple : ℕ → ℕ → Triple
triple i e = record { node = i / 64; begin = i % 64; end = e }

ends : List ℕ → ℕ → ℕ → List Triple
ends t i e = only (has (get_or t i 0) e) (triple i e)

row : List ℕ → ℕ → List Triple
row t i = gather (ends t i) 64

in_ends : (t : List ℕ) (i e : ℕ) {s : Triple} → Memᴰ s (ends t i e) → (has (get_or t i 0) e ≡ true) × (s ≡ triple i e)
unfolding ends
in_ends t i e m = picked (has (get_or t i 0) e) (triple i e) m

in_row : (t : List ℕ) (i : ℕ) {s : Triple} → Memᴰ s (row t i) → (e : ℕ) × (e < 64) × (has (get_or t i 0) e ≡ true) × (s ≡ triple i e)
unfolding row
in_row t i m = let g = gathered (ends t i) 64 m in let q = in_ends t i g.0 g.2 in (g.0, g.1, q.0, q.1)

distinct_row : (t : List ℕ) (i : ℕ) → Distinct (row t i)
unfolding row ends triple
distinct_row t i =
    distinct_gather (ends t i) (λ s. s.end) (λ e s m. ap (λ (s : Triple). s.end) (in_ends t i e m).1) (λ e. distinct_only (has (get_or t i 0) e) (triple i e)) 64

length-row : (t : List ℕ) (i : ℕ) → length (row t i) ≡ pop_count (get_or t i 0)
unfolding row ends
length-row t i =
    length-gather (ends t i) 64 ∙ sum-cong 64 (λ e l. length-only (has (get_or t i 0) e) (triple i e)) ∙ sym (count-sum (has (get_or t i 0)) 64)

-- the triple of a member is listed
listed : (t : List ℕ) (p b e : ℕ) → b < 64 → e < 64 → p * 64 + b < length t → In (get_or t (p * 64 + b) 0) e
    → Memᴰ (record { node = p; begin = b; end = e }) (gather (row t) (length t))
unfolding row ends triple
listed t p b e l k h m =
    gathers (row t) (length t) (p * 64 + b) h
    (gathers (ends t (p * 64 + b)) 64 e k
    (let q : (p * 64 + b) / 64 ≡ p = omega arith in
    let r : (p * 64 + b) % 64 ≡ b = omega arith in
    subst (λ (s : Triple). Memᴰ s (ends t (p * 64 + b) e)) (ap₂ (λ (x y : ℕ). record { node = x; begin = y; end = e }) q r)
    (picks (has (get_or t (p * 64 + b) 0) e) (triple (p * 64 + b) e) m.yes)))

module _ {P : Procedure} {T : Trajectory} {t : List ℕ} (few : P.count ≤ 64) (small : T.last < 64) (h : Found P T t) where
  entry_read : (i e : ℕ) → has (get_or t i 0) e ≡ true → Read P T (triple i e)
  unfolding triple
  entry_read i e m =
      let q : i / 64 * 64 + i % 64 ≡ i = omega arith in
      let j : InTable t (i / 64) (i % 64) e = rw q (record { yes = m }) in
      let k = h.beyond (i / 64) (i % 64) e (omega arith) j in
      let r = (h.right (i / 64) (i % 64) e k.0 k.1).0 j in
      (k.0, onward r.1.1, r)

  pub counted : Counted P T (pairs t)
  unfolding pairs triple
  counted = record {
    triples = gather (row t) (length t);
    distinct = distinct_gather (row t) (λ s. s.node * 64 + s.begin)
        (λ i s m. let r = in_row t i m in let a = ap (λ (s : Triple). s.node) r.3 in let b = ap (λ (s : Triple). s.begin) r.3 in omega arith)
        (distinct_row t) (length t);
    exact = λ s. (
      λ m.
          let g = gathered (row t) (length t) m in
          let r = in_row t g.0 g.2 in
          subst (Read P T) (sym r.3) (entry_read g.0 r.0 r.2),
      λ r.
          let l = r.1 in
          let k = r.2.0 in
          let q = r.0 in
          listed t s.node s.begin s.end (omega arith) (omega arith) (omega (arith, h.size))
          ((h.right s.node s.begin s.end q (omega arith)).1 r.2),
    );
    many = length-gather (row t) (length t) ∙ sum-cong (length t) (λ i l. length-row t i);
  }
