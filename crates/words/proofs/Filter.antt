-- The words of a list that pass a test. Assumes nothing.
use mathlib.Core.Bool.{Bool, true, false, not, cond, ◌&&◌, ◌||◌, true≢false}
use mathlib.Core.List.Memᴰ
use mathlib.Core.List.{List, [], ◌∷◌, ◌++◌, Memᴰ}
use mathlib.Core.Logic.{◌↔◌, ⊎_elim}
use mathlib.Core.Path.{◌≡◌, refl, ap, sym, ◌∙◌}
use Prim.Native.Nat.{ℕ, zero, suc, ◌+◌, ◌≤◌, ◌<◌}
use native.Mathlib.Numerals.{add-one}
use native.Mathlib.Omega.{arith}
use borrow.Author.Tests.{ne_eqb}
use lib.Dec.{eqb, ltb}
use lib.ListN.{length, get_or, take, drop}
use lib.Seq.{take-suc}
use Rattle.words.specs.Scan.{any, find_or, filter}
use Rattle.words.specs.Lists.{Each, each_none, each_more, insert}
use Rattle.words.specs.Tests.{indicator}
use Rattle.words.proofs.Choices.{cond-all}

module _ (test : ℕ → Bool) where
  filter-append : (vs ws : List ℕ) → filter test (vs ++ ws) ≡ filter test vs ++ filter test ws
  filter-append [] ws = refl
  filter-append (v ∷ vs) ws = cases (test v) (filter-append vs ws)
    where
      cases : (b : Bool) → filter test (vs ++ ws) ≡ filter test vs ++ filter test ws
          → cond b (v ∷ filter test (vs ++ ws)) (filter test (vs ++ ws)) ≡ cond b (v ∷ filter test vs) (filter test vs) ++ filter test ws
      cases true e = ap (λ (l : List ℕ). v ∷ l) e
      cases false e = e

  -- one word more of a list
  module _ (ws : List ℕ) (i : ℕ) (inside : i < length ws) where
    pub filter-hit : test (get_or ws i 0) ≡ true → filter test (take (i + 1) ws) ≡ filter test (take i ws) ++ (get_or ws i 0 ∷ [])
    filter-hit e = rw (add-one i, take-suc ws i 0 inside, filter-append (take i ws) (get_or ws i 0 ∷ []), e)

  pub each_filter : {P : ℕ → Type 0} {S : List ℕ} → Each P S → Each P (filter test S)
  each_filter each_none = each_none
  each_filter {P} (each_more {s} {ss = S} p a) = cases (test s) (each_filter a)
    where
      cases : (b : Bool) → Each P (filter test S) → Each P (cond b (s ∷ filter test S) (filter test S))
      cases true f = each_more p f
      cases false f = f

  -- none passes where no word is kept
  pub none_kept : (S : List ℕ) → eqb (length (filter test S)) 0 ≡ not (any test S)
  none_kept [] = refl
  none_kept (s ∷ S) = cases (test s) (none_kept S)
    where
      cases : (b : Bool) → eqb (length (filter test S)) 0 ≡ not (any test S)
          → eqb (length (cond b (s ∷ filter test S) (filter test S))) 0 ≡ not (b || any test S)
      cases true e = ne_eqb (suc (length (filter test S))) 0 (λ z. omega arith)
      cases false e = e

  -- each word kept passes, and all are kept where each passes
  pub each_kept : (S : List ℕ) → Each (λ s. test s ≡ true) (filter test S)
  each_kept [] = each_none
  each_kept (s ∷ S) = cases (test s) refl (each_kept S)
    where
      cases : (b : Bool) → test s ≡ b → Each (λ s. test s ≡ true) (filter test S) → Each (λ s. test s ≡ true) (cond b (s ∷ filter test S) (filter test S))
      cases true e a = each_more e a
      cases false e a = a

  pub filter-all : {S : List ℕ} → Each (λ s. test s ≡ true) S → filter test S ≡ S
  filter-all each_none = refl
  filter-all (each_more e a) = rw (e, filter-all a)

  pub filter_none : {S : List ℕ} → Each (λ s. test s ≡ false) S → filter test S ≡ []
  filter_none each_none = refl
  filter_none (each_more e a) = rw (e, filter_none a)

  -- the words that pass stand together
  pub filter-slice : (S : List ℕ) (i n : ℕ) → ((k : ℕ) → k < i → k < length S → test (get_or S k 0) ≡ false)
      → ((k : ℕ) → i ≤ k → k < i + n → k < length S → test (get_or S k 0) ≡ true)
      → ((k : ℕ) → i + n ≤ k → k < length S → test (get_or S k 0) ≡ false) → filter test S ≡ take n (drop i S)
  filter-slice [] zero zero a b c = refl
  filter-slice [] zero (suc n) a b c = refl
  filter-slice [] (suc i) zero a b c = refl
  filter-slice [] (suc i) (suc n) a b c = refl
  filter-slice (s ∷ S) zero zero a b c =
      rw (c 0 (omega arith) (omega arith))
      (filter-slice S 0 0 (λ k l m. absurd (omega arith)) (λ k l m h. absurd (omega arith)) (λ k l m. c (suc k) (omega arith) (omega arith)))
  filter-slice (s ∷ S) zero (suc n) a b c =
      rw (b 0 (omega arith) (omega arith) (omega arith))
      (ap (λ (l : List ℕ). s ∷ l)
      (filter-slice S 0 n (λ k l m. absurd (omega arith)) (λ k l m h. b (suc k) (omega arith) (omega arith) (omega arith)) (λ k l m. c (suc k) (omega arith) (omega arith))))
  filter-slice (s ∷ S) (suc i) n a b c =
      rw (a 0 (omega arith) (omega arith))
      (filter-slice S i n (λ k l m. a (suc k) (omega arith) (omega arith)) (λ k l m h. b (suc k) (omega arith) (omega arith) (omega arith)) (λ k l m. c (suc k) (omega arith) (omega arith)))

  -- a word passes and is in the list
  filter-mem : (s : ℕ) (S : List ℕ) → Memᴰ s (filter test S) → Memᴰ s S × (test s ≡ true)
  filter-mem s [] m = absurd (Memᴰ.not-nil m)
  filter-mem s (w ∷ ws) m = cases (test w) refl m (filter-mem s ws)
    where
      cases : (b : Bool) → test w ≡ b → Memᴰ s (cond b (w ∷ filter test ws) (filter test ws))
          → (Memᴰ s (filter test ws) → Memᴰ s ws × (test s ≡ true)) → Memᴰ s (w ∷ ws) × (test s ≡ true)
      cases true e m ih = ⊎_elim (λ q. (Memᴰ.head q, rw q e)) (λ m. let r = ih m in (Memᴰ.tail r.0, r.1)) (Memᴰ.cases_cons m)
      cases false e m ih = let r = ih m in (Memᴰ.tail r.0, r.1)

  mem_filtered : (s : ℕ) {S : List ℕ} → Memᴰ s S → test s ≡ true → Memᴰ s (filter test S)
  mem_filtered s (Memᴰ.head {x} {xs} q) e = rw (← q, e) (Memᴰ.head refl)
  mem_filtered s (Memᴰ.tail {x} {xs} m) e = cond-all (λ l. Memᴰ s l) (test x) (Memᴰ.tail (mem_filtered s m e)) (mem_filtered s m e)

  pub mem_filter : (s : ℕ) (S : List ℕ) → Memᴰ s (filter test S) ↔ (Memᴰ s S × (test s ≡ true))
  mem_filter s S = (filter-mem s S, λ h. mem_filtered s h.0 h.1)

-- two tests that agree on each word
module _ (f g : ℕ → Bool) where
  pub filter-agree : {S : List ℕ} → Each (λ s. f s ≡ g s) S → filter f S ≡ filter g S
  filter-agree each_none = refl
  filter-agree (each_more e a) = rw (e, filter-agree a)

-- two tests that no word passes both
pub filter-apart : (f g : ℕ → Bool) → ((s : ℕ) → f s ≡ true → g s ≡ false) → (S : List ℕ) → length (filter f S) + length (filter g S) ≤ length S
filter-apart f g h [] = omega arith
filter-apart f g h (s ∷ S) = cases (f s) refl (g s) refl (filter-apart f g h S)
  where
    cases : (a : Bool) → f s ≡ a → (b : Bool) → g s ≡ b → length (filter f S) + length (filter g S) ≤ length S
        → length (cond a (s ∷ filter f S) (filter f S)) + length (cond b (s ∷ filter g S) (filter g S)) ≤ suc (length S)
    cases true e true q ih = absurd (true≢false (sym q ∙ h s e))
    cases true e false q ih = omega arith
    cases false e true q ih = omega arith
    cases false e false q ih = omega arith

-- how many words pass
module _ (test : ℕ → Bool) where
  pub count-cons : (s : ℕ) (S : List ℕ) → length (filter test (s ∷ S)) ≡ indicator (test s) + length (filter test S)
  count-cons s S = cases (test s)
    where
      cases : (b : Bool) → length (cond b (s ∷ filter test S) (filter test S)) ≡ indicator b + length (filter test S)
      cases true = omega arith
      cases false = omega arith

  -- of the first words of a list, of one word more of them, and of a list with one word put in
  pub count-take : (n : ℕ) (S : List ℕ) → length (filter test (take n S)) ≤ length (filter test S)
  count-take zero S = omega arith
  count-take (suc n) [] = omega arith
  count-take (suc n) (s ∷ S) = omega (arith, count-cons s (take n S), count-cons s S, count-take n S)

  pub count_next : (n : ℕ) (S : List ℕ) → n < length S → length (filter test (take (suc n) S)) ≡ indicator (test (get_or S n 0)) + length (filter test (take n S))
  count_next n [] l = absurd (omega arith)
  count_next zero (s ∷ S) l = count-cons s []
  count_next (suc n) (s ∷ S) l = omega (arith, count-cons s (take (suc n) S), count-cons s (take n S), count_next n S (omega arith))

  pub count-insert : (w : ℕ) (S : List ℕ) → length (filter test (insert w S)) ≡ indicator (test w) + length (filter test S)
  unfolding insert
  count-insert w [] = count-cons w []
  count-insert w (s ∷ S) = cases (ltb w s) (count-insert w S)
    where
      cases : (t : Bool) → length (filter test (insert w S)) ≡ indicator (test w) + length (filter test S)
          → length (filter test (cond t (w ∷ s ∷ S) (s ∷ insert w S))) ≡ indicator (test w) + length (filter test (s ∷ S))
      cases true ih = count-cons w (s ∷ S)
      cases false ih = omega (arith, count-cons s (insert w S), count-cons s S)

-- as many or more, where each word that passes one test passes the other
pub count-le : (f g : ℕ → Bool) {S : List ℕ} → Each (λ s. f s ≡ true → g s ≡ true) S → length (filter f S) ≤ length (filter g S)
count-le f g each_none = omega arith
count-le f g (each_more {s} {ss = S} h a) = cases (f s) (g s) h (count-le f g a)
  where
    cases : (b c : Bool) → (b ≡ true → c ≡ true) → length (filter f S) ≤ length (filter g S)
        → length (cond b (s ∷ filter f S) (filter f S)) ≤ length (cond c (s ∷ filter g S) (filter g S))
    cases true true h ih = omega arith
    cases true false h ih = absurd (true≢false (sym (h refl)))
    cases false true h ih = omega arith
    cases false false h ih = ih

-- a test on the words kept is one on all words
module _ (test keeps : ℕ → Bool) where
  pub filter-filter : (S : List ℕ) → filter test (filter keeps S) ≡ filter (λ s. keeps s && test s) S
  filter-filter [] = refl
  filter-filter (s ∷ S) = cases (keeps s) (filter-filter S)
    where
      cases : (k : Bool) → filter test (filter keeps S) ≡ filter (λ s. keeps s && test s) S
          → filter test (cond k (s ∷ filter keeps S) (filter keeps S)) ≡ cond (k && test s) (s ∷ filter (λ s. keeps s && test s) S) (filter (λ s. keeps s && test s) S)
      cases true ih = rw ih
      cases false ih = ih

  pub any-filter : (S : List ℕ) → any test (filter keeps S) ≡ any (λ s. keeps s && test s) S
  any-filter [] = refl
  any-filter (s ∷ S) = cases (keeps s) (any-filter S)
    where
      cases : (k : Bool) → any test (filter keeps S) ≡ any (λ s. keeps s && test s) S
          → any test (cond k (s ∷ filter keeps S) (filter keeps S)) ≡ ((k && test s) || any (λ s. keeps s && test s) S)
      cases true ih = rw ih
      cases false ih = ih

  pub find_or-filter : (gives : ℕ → ℕ) (other : ℕ) (S : List ℕ)
      → find_or test gives other (filter keeps S) ≡ find_or (λ s. keeps s && test s) gives other S
  unfolding find_or
  find_or-filter gives other [] = refl
  find_or-filter gives other (s ∷ S) = cases (keeps s) (find_or-filter gives other S)
    where
      cases : (k : Bool) → find_or test gives other (filter keeps S) ≡ find_or (λ s. keeps s && test s) gives other S
          → find_or test gives other (cond k (s ∷ filter keeps S) (filter keeps S))
          ≡ cond (k && test s) (gives s) (find_or (λ s. keeps s && test s) gives other S)
      cases true ih = rw ih
      cases false ih = ih
