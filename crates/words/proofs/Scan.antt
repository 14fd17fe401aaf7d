-- What the first word that passes a test gives, and the words that lead a list.
-- Assumes nothing.
use mathlib.Core.Bool.{Bool, true, false, cond}
use mathlib.Core.List.{List, [], ◌∷◌}
use mathlib.Core.Logic.{by_cases}
use mathlib.Core.Path.{◌≡◌, refl, ap}
use Prim.Native.Nat.{ℕ, zero, suc, ◌+◌, ◌-◌, ◌<◌, ◌≤◌}
use native.Mathlib.Numerals.{add-one}
use native.Mathlib.Decide.{dec_lt}
use native.Mathlib.Omega.{arith}
use lib.ListN.{length, get_or, take, drop, drop_of_length-le, length-drop}
use lib.Seq.{drop-cons}
use Rattle.words.specs.Scan.{any, every, find_or, take_while, drop_while, count}
use Rattle.std.proofs.lemmas.List.Sums.{take_while-cons}
use Rattle.words.specs.Lists.{Each, each_none, each_more}
use Rattle.words.specs.Tests.{indicator}
use Rattle.words.proofs.Choices.{both_true}
use borrow.Author.Tests.{eqb-true}
use lib.Dec.{eqb}

module _ (ws : List ℕ) (i : ℕ) where
  pub drop-next : i < length ws → drop i ws ≡ get_or ws i 0 ∷ drop (i + 1) ws
  drop-next h = rw (add-one i) (drop-cons ws i 0 h)

  module _ (test : ℕ → Bool) (gives : ℕ → ℕ) (other : ℕ) where
    pub gives_end : length ws ≤ i → find_or test gives other (drop i ws) ≡ other
    unfolding find_or
    gives_end h = rw (drop_of_length-le ws h)

  module _ (test : ℕ → Bool) where
    pub any-end : length ws ≤ i → any test (drop i ws) ≡ false
    any-end h = rw (drop_of_length-le ws h)

module _ (test : ℕ → Bool) where
  -- word i of the leading ones is word i of the list, and passes
  pub take_while-entry : (ws : List ℕ) (i : ℕ) → i < length (take_while test ws)
      → (get_or (take_while test ws) i 0 ≡ get_or ws i 0) × (test (get_or ws i 0) ≡ true) × (i < length ws)
  take_while-entry [] i h = absurd (omega arith)
  take_while-entry (w ∷ ws) i h = rw (take_while-cons test w ws) (cases (test w) refl i (rw (take_while-cons test w ws) at h) (take_while-entry ws))
    where
      Entry : List ℕ → ℕ → Type 0
      Entry l i = (get_or l i 0 ≡ get_or (w ∷ ws) i 0) × (test (get_or (w ∷ ws) i 0) ≡ true) × (i < suc (length ws))

      cases : (t : Bool) → test w ≡ t → (i : ℕ) → i < length (cond t (w ∷ take_while test ws) [])
          → ((i : ℕ) → i < length (take_while test ws) → (get_or (take_while test ws) i 0 ≡ get_or ws i 0) × (test (get_or ws i 0) ≡ true) × (i < length ws))
          → Entry (cond t (w ∷ take_while test ws) []) i
      cases false e i l ih = absurd (omega arith)
      cases true e zero l ih = (refl, e, omega arith)
      cases true e (suc i) l ih = let r = ih i (omega arith) in (r.0, r.1, omega (arith, r.2))

  -- the word after the leading ones fails, where there is one
  pub take_while-stop : (ws : List ℕ) → length (take_while test ws) < length ws → test (get_or ws (length (take_while test ws)) 0) ≡ false
  take_while-stop [] h = absurd (omega arith)
  take_while-stop (w ∷ ws) h = rw (take_while-cons test w ws) (cases (test w) refl (rw (take_while-cons test w ws) at h) (take_while-stop ws))
    where
      cases : (t : Bool) → test w ≡ t → length (cond t (w ∷ take_while test ws) []) < suc (length ws)
          → (length (take_while test ws) < length ws → test (get_or ws (length (take_while test ws)) 0) ≡ false)
          → test (get_or (w ∷ ws) (length (cond t (w ∷ take_while test ws) [])) 0) ≡ false
      cases false e l ih = e
      cases true e l ih = ih (omega arith)

  -- so many lead as pass up to the first that fails
  pub lead_count : (ws : List ℕ) (i : ℕ) → i ≤ length ws → ((k : ℕ) → k < i → test (get_or ws k 0) ≡ true) → (i < length ws → test (get_or ws i 0) ≡ false)
      → i ≡ length (take_while test ws)
  lead_count [] zero l h stop = refl
  lead_count [] (suc i) l h stop = absurd (omega arith)
  lead_count (w ∷ ws) zero l h stop = rw (take_while-cons test w ws, stop (omega arith))
  lead_count (w ∷ ws) (suc i) l h stop =
      rw (take_while-cons test w ws, h 0 (omega arith)) (ap suc (lead_count ws i (omega arith) (λ k m. h (suc k) (omega arith)) (λ m. stop (omega arith))))

  -- the words beyond them
  pub drop_while-drop : (ws : List ℕ) → drop_while test ws ≡ drop (length (take_while test ws)) ws
  unfolding drop_while
  drop_while-drop [] = refl
  drop_while-drop (w ∷ ws) = rw (take_while-cons test w ws) (cases (test w) (drop_while-drop ws))
    where
      cases : (t : Bool) → drop_while test ws ≡ drop (length (take_while test ws)) ws
          → cond t (drop_while test ws) (w ∷ ws) ≡ drop (length (cond t (w ∷ take_while test ws) [])) (w ∷ ws)
      cases false ih = refl
      cases true ih = ih

  -- they are the first of the list, as many as they are
  pub take_while-take : (ws : List ℕ) → take (length (take_while test ws)) ws ≡ take_while test ws
  take_while-take [] = refl
  take_while-take (w ∷ ws) = rw (take_while-cons test w ws) (cases (test w) (take_while-take ws))
    where
      cases : (t : Bool) → take (length (take_while test ws)) ws ≡ take_while test ws
          → take (length (cond t (w ∷ take_while test ws) [])) (w ∷ ws) ≡ cond t (w ∷ take_while test ws) []
      cases false ih = refl
      cases true ih = ap (λ (l : List ℕ). w ∷ l) ih

  -- there are no more of them than words
  pub take_while-fits : (ws : List ℕ) → length (take_while test ws) ≤ length ws
  take_while-fits ws = by_cases (dec_lt (length ws) (length (take_while test ws))) (λ h. absurd (let z = take_while-entry ws (length ws) h in omega (arith, z.2))) (λ h. omega arith)

-- a part of a list, from its start up to its end
pub part_from : (ws : List ℕ) (a r : ℕ) → take (a + r - a) (drop a ws) ≡ take r (drop a ws)
part_from ws a r = let q : a + r - a ≡ r = omega arith in rw q

-- the leading ones from a position on are such a part
module _ (test : ℕ → Bool) (ws : List ℕ) (a r : ℕ) (e : r ≡ length (take_while test (drop a ws))) where
  pub run_inside : a ≤ length ws → a + r ≤ length ws
  run_inside h = omega (arith, take_while-fits test (drop a ws), length-drop a ws)

  pub run_part : take r (drop a ws) ≡ take_while test (drop a ws)
  run_part = rw e (take_while-take test (drop a ws))

pub every_true : (test : ℕ → Bool) (xs : List ℕ) → every test xs ≡ true → (q : ℕ) → 0 < count q xs → test q ≡ true
unfolding count
every_true test [] e q h = absurd (omega arith)
every_true test (x ∷ xs) e q h =
    let b = both_true (test x) (every test xs) e in
    cases (eqb q x) refl h b.0 (every_true test xs b.1 q)
  where
    cases : (t : Bool) → eqb q x ≡ t → 0 < indicator t + count q xs → test x ≡ true → (0 < count q xs → test q ≡ true) → test q ≡ true
    cases true f h here ih = rw (eqb-true q x f) here
    cases false f h here ih = ih (omega arith)

-- two tests that agree on each word
module _ (f g : ℕ → Bool) where
  pub any-agree : {S : List ℕ} → Each (λ s. f s ≡ g s) S → any f S ≡ any g S
  any-agree each_none = refl
  any-agree (each_more e a) = rw (e, any-agree a)

  pub find_or-agree : (gives : ℕ → ℕ) (other : ℕ) {S : List ℕ} → Each (λ s. f s ≡ g s) S → find_or f gives other S ≡ find_or g gives other S
  unfolding find_or
  find_or-agree gives other each_none = refl
  find_or-agree gives other (each_more e a) = rw (e, find_or-agree gives other a)
