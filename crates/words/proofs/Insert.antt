-- A list with one word put in: what each word is, and each two; a test that the word fails; where it stands. Assumes nothing.
use mathlib.Core.Bool.{Bool, true, false, not, cond, ◌||◌}
use mathlib.Core.List.{List, [], ◌∷◌, ◌++◌}
use mathlib.Core.Path.{◌≡◌, refl, ap}
use Prim.Native.Nat.{ℕ, suc, ◌<◌, ◌≤◌}
use native.Mathlib.Decide.{dec_lt}
use native.Mathlib.Omega.{arith}
use borrow.Author.Tests.{ltb-true, ltb-false, le-ltb}
use lib.Dec.{ltb}
use lib.ListN.{length, take, drop}
use Rattle.words.specs.Scan.{any, find_or, take_while}
use Rattle.std.proofs.lemmas.List.Sums.{take_while-cons}
use Rattle.words.specs.Lists.{Each, each_none, each_more, Pairs, pairs-none, pairs-more, insert}
use Rattle.words.specs.Code.Place.{not_above}
use Rattle.words.proofs.Lists.{each_map}

module _ {P : ℕ → Type 0} (w : ℕ) (p : P w) where
  pub each_insert : {S : List ℕ} → Each P S → Each P (insert w S)
  unfolding insert
  each_insert each_none = each_more p each_none
  each_insert (each_more {s} {ss} q a) = cases (ltb w s) (each_insert a)
    where
      cases : (t : Bool) → Each P (insert w ss) → Each P (cond t (w ∷ s ∷ ss) (s ∷ insert w ss))
      cases true ih = each_more p (each_more q a)
      cases false ih = each_more q ih

module _ {R : ℕ → ℕ → Type 0} (w : ℕ) where
  -- a word that is so with each other word, on either side
  pub pairs-insert : {S : List ℕ} → Each (λ s. R s w) S → Each (R w) S → Pairs R S → Pairs R (insert w S)
  unfolding insert
  pairs-insert each_none each_none pairs-none = pairs-more each_none pairs-none
  pairs-insert (each_more {s} {ss} b bs) (each_more a as') (pairs-more p ps) = cases (ltb w s) (pairs-insert bs as' ps) (each_insert w b p)
    where
      cases : (t : Bool) → Pairs R (insert w ss) → Each (R s) (insert w ss) → Pairs R (cond t (w ∷ s ∷ ss) (s ∷ insert w ss))
      cases true ih q = pairs-more (each_more a as') (pairs-more p ps)
      cases false ih q = pairs-more q ih

-- a list that ascends does so with a word put in that it does not have
pub order_insert : (w : ℕ) {S : List ℕ} → Each (λ s. s ≡ w → ⊥) S → Pairs (λ s s'. s < s') S → Pairs (λ s s'. s < s') (insert w S)
unfolding insert
order_insert w each_none pairs-none = pairs-more each_none pairs-none
order_insert w (each_more {s} {ss} n ns) (pairs-more p ps) = cases (ltb w s) refl (order_insert w ns ps)
  where
    differ : s ≤ w → Dec (s < w) → s < w
    differ l (yes m) = m
    differ l (no m) = absurd (n (omega arith))

    cases : (t : Bool) → ltb w s ≡ t → Pairs (λ s s'. s < s') (insert w ss) → Pairs (λ s s'. s < s') (cond t (w ∷ s ∷ ss) (s ∷ insert w ss))
    cases true e ih = let l = ltb-true w s e in pairs-more (each_more l (each_map (λ v m. omega arith) p)) (pairs-more p ps)
    cases false e ih = pairs-more (each_insert w (differ (ltb-false w s e) (dec_lt s w)) p) ih

-- a word that fails a test changes nothing of what the test finds
module _ (test : ℕ → Bool) (w : ℕ) (e : test w ≡ false) where
  pub any-insert : (S : List ℕ) → any test (insert w S) ≡ any test S
  unfolding insert
  any-insert [] = rw e
  any-insert (s ∷ S) = cases (ltb w s) (any-insert S)
    where
      cases : (t : Bool) → any test (insert w S) ≡ any test S → any test (cond t (w ∷ s ∷ S) (s ∷ insert w S)) ≡ (test s || any test S)
      cases true ih = rw e
      cases false ih = rw ih

  pub find_or-insert : (gives : ℕ → ℕ) (other : ℕ) (S : List ℕ) → find_or test gives other (insert w S) ≡ find_or test gives other S
  unfolding insert find_or
  find_or-insert gives other [] = rw e
  find_or-insert gives other (s ∷ S) = cases (ltb w s) (find_or-insert gives other S)
    where
      cases : (t : Bool) → find_or test gives other (insert w S) ≡ find_or test gives other S
          → find_or test gives other (cond t (w ∷ s ∷ S) (s ∷ insert w S)) ≡ cond (test s) (gives s) (find_or test gives other S)
      cases true ih = rw e
      cases false ih = rw ih

module _ (w : ℕ) where
  -- it stands after the words that are not above it
  pub insert-split : (S : List ℕ) → insert w S ≡ take (length (take_while (not_above w) S)) S ++ (w ∷ drop (length (take_while (not_above w) S)) S)
  unfolding insert
  insert-split [] = refl
  insert-split (s ∷ S) = rw (take_while-cons (not_above w) s S) (cases (ltb w s) (insert-split S))
    where
      cases : (t : Bool) → insert w S ≡ take (length (take_while (not_above w) S)) S ++ (w ∷ drop (length (take_while (not_above w) S)) S)
          → cond t (w ∷ s ∷ S) (s ∷ insert w S)
          ≡ take (length (cond (not t) (s ∷ take_while (not_above w) S) [])) (s ∷ S) ++ (w ∷ drop (length (cond (not t) (s ∷ take_while (not_above w) S) [])) (s ∷ S))
      cases true ih = refl
      cases false ih = ap (λ (l : List ℕ). s ∷ l) ih

  -- after all that are below it
  pub insert-last : {S : List ℕ} → Each (λ s. s < w) S → insert w S ≡ S ++ (w ∷ [])
  unfolding insert
  insert-last each_none = refl
  insert-last (each_more {s} l ls) = rw (le-ltb w s (omega arith), insert-last ls)

  pub insert-length : (S : List ℕ) → length (insert w S) ≡ suc (length S)
  unfolding insert
  insert-length [] = refl
  insert-length (s ∷ S) = cases (ltb w s) (insert-length S)
    where
      cases : (t : Bool) → length (insert w S) ≡ suc (length S) → length (cond t (w ∷ s ∷ S) (s ∷ insert w S)) ≡ suc (suc (length S))
      cases true ih = refl
      cases false ih = ap suc ih
