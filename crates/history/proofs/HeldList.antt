-- The starts in hand as the first words of a list: which of a plan's starts join it at a moment, which stay in it. Assumes nothing.
use mathlib.Core.Bool.{Bool}
use mathlib.Core.List.{List}
use mathlib.Core.Logic.{by_cases}
use mathlib.Core.Path.{◌≡◌, refl, sym, subst, ◌∙◌}
use Prim.Native.Nat.{ℕ, ◌+◌, ◌-◌, ◌<◌, ◌≤◌}
use native.Mathlib.Decide.{dec_lt}
use native.Mathlib.Nat.{zero-add}
use native.Mathlib.Omega.{arith}
use borrow.Author.Tests.{eqb-true, eqb-false, eq-eqb, ne_eqb}
use lib.ListN.{length, get_or, take, drop, length-drop}
use lib.Seq.{get_or-drop}
use Rattle.words.specs.Fields.{start_moment}
use Rattle.words.specs.Scan.{take_while, filter}
use Rattle.words.proofs.Scan.{take_while-entry, take_while-stop, take_while-take, run_inside}
use Rattle.words.proofs.Lists.{pairs-at}
use Rattle.words.proofs.Filter.{filter-slice}
use Rattle.history.specs.Held.{begins_at, starting_at, Ascending}

-- of starts in the order of their moments, the first `next` are those before moment t
pub record Begun (S : List ℕ) (t next : ℕ) : Type 0 where
  pub inside : next ≤ length S
  pub before : (i : ℕ) → i < next → start_moment (get_or S i 0) < t
  pub after : (i : ℕ) → next ≤ i → i < length S → t ≤ start_moment (get_or S i 0)

pub begun_none : {S : List ℕ} → Begun S 0 0
begun_none = record { inside = omega arith; before = λ i l. absurd (omega arith); after = λ i l m. omega arith }

module _ {S : List ℕ} {t next : ℕ} (ascends : Ascending S) (old : Begun S t next) where
  abbrev n : ℕ
  n = length (take_while (begins_at t) (drop next S))

  moment_here : (i : ℕ) → i < n → start_moment (get_or S (next + i) 0) ≡ t
  moment_here i l = eqb-true _ t (rw (get_or-drop next S i 0) at (take_while-entry (begins_at t) (drop next S) i l).1)

  -- the first that does not begin at t
  first_later : next + n < length S → t + 1 ≤ start_moment (get_or S (next + n) 0)
  first_later l =
      let stop = take_while-stop (begins_at t) (drop next S) (rw (length-drop next S) (omega arith)) in
      above (eqb-false _ t (rw (get_or-drop next S n 0) at stop)) (old.after (next + n) (omega arith) l)
    where
      above : {u : ℕ} → (u ≡ t → ⊥) → t ≤ u → t + 1 ≤ u
      above {u} differ l = by_cases (dec_lt t u) (λ m. omega arith) (λ m. absurd (differ (omega arith)))

  -- and then those that lead and begin at t
  pub begun_more : Begun S (t + 1) (next + length (take_while (begins_at t) (drop next S)))
  begun_more = record { inside = run_inside (begins_at t) S next n refl old.inside; before = before; after = after }
    where
      before : (i : ℕ) → i < next + n → start_moment (get_or S i 0) < t + 1
      before i l = by_cases (dec_lt i next) (λ m. omega (arith, old.before i m)) (λ m. here (i - next) (omega arith) (omega arith))
        where
          here : (k : ℕ) → k < n → next + k ≡ i → start_moment (get_or S i 0) < t + 1
          here k m q = omega (arith, rw q at (moment_here k m))

      after : (i : ℕ) → next + n ≤ i → i < length S → t + 1 ≤ start_moment (get_or S i 0)
      after i l m =
          by_cases (dec_lt (next + n) i) (λ k. omega (arith, first_later (omega arith), pairs-at ascends i (next + n) k m))
          (λ k. let same : i ≡ next + n = omega arith in rw same (first_later (omega arith)))

  -- these are all that begin at t
  pub begun_starting : take_while (begins_at t) (drop next S) ≡ starting_at S t
  begun_starting =
      sym
      (filter-slice (begins_at t) S next n (λ k l m. ne_eqb _ t (λ z. omega (arith, old.before k l)))
      (λ k l m h. eq-eqb _ t (omega (arith, old.after k l h, begun_more.before k m))) (λ k l m. ne_eqb _ t (λ z. omega (arith, begun_more.after k l m)))
      ∙ take_while-take (begins_at t) (drop next S))

-- at moment 0
pub begun_first : {S : List ℕ} → Ascending S → Begun S 1 (length (take_while (begins_at 0) S))
begun_first {S} ascends = subst (λ (k : ℕ). Begun S 1 k) (zero-add _) (begun_more ascends begun_none)

-- a list on the way to `Filtered`: of the first i words those that pass are the first n, and from word i on it is as it was
pub record Kept (test : ℕ → Bool) (old : List ℕ) (i n : ℕ) (new : List ℕ) : Type 0 where
  pub few : n ≤ i
  pub size : length new ≡ length old
  pub words : take n new ≡ filter test (take i old)
  pub rest : (k : ℕ) → i ≤ k → get_or new k 0 ≡ get_or old k 0
