-- Each word of a list and each two of them: by their positions, by a test, and without the last word; the first words of a list. Assumes
-- nothing.
use mathlib.Core.Bool.{Bool, true, false, ◌||◌, true≢false}
use mathlib.Core.List.{List, [], ◌∷◌, ◌++◌}
use mathlib.Core.Path.{◌≡◌, refl}
use Prim.Native.Nat.{ℕ, zero, suc, ◌^◌, ◌≤◌, ◌<◌}
use native.Mathlib.Omega.{arith}
use lib.ListN.{length, get_or, take, replicate, length-append, length-replicate}
use lib.Seq.{length-take-le, take-append-le}
use Rattle.words.specs.Scan.{any}
use Rattle.words.specs.Lists.{Each, each_none, each_more, Pairs, pairs-none, pairs-more, first_words}

module _ {P : ℕ → Type 0} where
  pub each_of : (S : List ℕ) → ((i : ℕ) → i < length S → P (get_or S i 0)) → Each P S
  each_of [] h = each_none
  each_of (s ∷ S) h = each_more (h 0 (omega arith)) (each_of S (λ i l. h (suc i) (omega arith)))

  pub each_at : {S : List ℕ} → Each P S → (i : ℕ) → i < length S → P (get_or S i 0)
  each_at each_none i l = absurd (omega arith)
  each_at (each_more p a) zero l = p
  each_at (each_more p a) (suc i) l = each_at a i (omega arith)

module _ {R : ℕ → ℕ → Type 0} where
  pub pairs_of : (S : List ℕ) → ((i j : ℕ) → j < i → i < length S → R (get_or S j 0) (get_or S i 0)) → Pairs R S
  pairs_of [] h = pairs-none
  pairs_of (s ∷ S) h =
      pairs-more (each_of S (λ i l. h (suc i) 0 (omega arith) (omega arith))) (pairs_of S (λ i j l m. h (suc i) (suc j) (omega arith) (omega arith)))

  pub pairs-at : {S : List ℕ} → Pairs R S → (i j : ℕ) → j < i → i < length S → R (get_or S j 0) (get_or S i 0)
  pairs-at pairs-none i j l m = absurd (omega arith)
  pairs-at (pairs-more a p) zero j l m = absurd (omega arith)
  pairs-at (pairs-more a p) (suc i) zero l m = each_at a i (omega arith)
  pairs-at (pairs-more a p) (suc i) (suc j) l m = pairs-at p i j (omega arith) (omega arith)

-- of 32-bit words, at any position
pub small_at : {S : List ℕ} → Each (λ s. s < 2 ^ 32) S → (i : ℕ) → get_or S i 0 < 2 ^ 32
small_at each_none i = omega arith
small_at (each_more p a) zero = p
small_at (each_more p a) (suc i) = small_at a i

pub each_map : {P Q : ℕ → Type 0} → ((s : ℕ) → P s → Q s) → {S : List ℕ} → Each P S → Each Q S
each_map f each_none = each_none
each_map f (each_more p a) = each_more (f _ p) (each_map f a)

pub each_with : {P Q R : ℕ → Type 0} → ((s : ℕ) → P s → Q s → R s) → {S : List ℕ} → Each P S → Each Q S → Each R S
each_with f each_none each_none = each_none
each_with f (each_more p a) (each_more q b) = each_more (f _ p q) (each_with f a b)

-- a test that every word fails, and one that some word passes
module _ (test : ℕ → Bool) where
  pub any_none : {S : List ℕ} → Each (λ s. test s ≡ false) S → any test S ≡ false
  any_none each_none = refl
  any_none (each_more e a) = rw (e, any_none a)

  pub none_any : (S : List ℕ) → any test S ≡ false → Each (λ s. test s ≡ false) S
  none_any [] e = each_none
  none_any (s ∷ S) e = cases (test s) refl e (none_any S)
    where
      cases : (t : Bool) → test s ≡ t → (t || any test S) ≡ false → (any test S ≡ false → Each (λ s. test s ≡ false) S) → Each (λ s. test s ≡ false) (s ∷ S)
      cases true q e ih = absurd (true≢false e)
      cases false q e ih = each_more q (ih e)

-- a list is empty, or has a last word
pub data Last : List ℕ → Type 0 where
  no_last : Last []
  the_last : (S : List ℕ) (w : ℕ) → Last (S ++ (w ∷ []))

pub last_of : (S : List ℕ) → Last S
last_of [] = no_last
last_of (s ∷ S) = cases (last_of S)
  where
    cases : {S : List ℕ} → Last S → Last (s ∷ S)
    cases no_last = the_last [] s
    cases (the_last S' w) = the_last (s ∷ S') w

module _ {P : ℕ → Type 0} where
  pub each_init : (S : List ℕ) (w : ℕ) → Each P (S ++ (w ∷ [])) → Each P S × P w
  each_init [] w (each_more p a) = (each_none, p)
  each_init (s ∷ S) w (each_more p a) = let r = each_init S w a in (each_more p r.0, r.1)

  pub each_last : {S : List ℕ} (w : ℕ) → Each P S → P w → Each P (S ++ (w ∷ []))
  each_last w each_none q = each_more q each_none
  each_last w (each_more p a) q = each_more p (each_last w a q)

pub pairs-init : {R : ℕ → ℕ → Type 0} (S : List ℕ) (w : ℕ) → Pairs R (S ++ (w ∷ [])) → Pairs R S × Each (λ s. R s w) S
pairs-init [] w p = (pairs-none, each_none)
pairs-init (s ∷ S) w (pairs-more a p) =
    let b = each_init S w a in
    let r = pairs-init S w p in
    (pairs-more b.0 r.0, each_more b.1 r.1)

-- the first n words are n; of a list that has as many, they are its own
pub first_words-length : (n : ℕ) (ws : List ℕ) → length (first_words n ws) ≡ n
first_words-length n ws = length-take-le n (ws ++ replicate n 0) (rw (length-append, length-replicate) (omega arith))

pub first_words-take : (n : ℕ) (ws : List ℕ) → n ≤ length ws → first_words n ws ≡ take n ws
first_words-take n ws h = take-append-le n ws (replicate n 0) h
