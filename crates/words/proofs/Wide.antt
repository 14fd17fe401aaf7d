-- What the fields that a wide head moves have under either head. Assumes nothing.
use mathlib.Core.Bool.{Bool, true, false, cond, ◌&&◌}
use mathlib.Core.Path.{◌≡◌, refl}
use Prim.Native.Nat.{ℕ, suc, ◌+◌, ◌*◌, ◌/◌, ◌^◌, ◌≤◌}
use native.Mathlib.Omega.{arith}
use borrow.Author.Tests.{eqb-true}
use lib.Dec.{eqb}
use Rattle.words.specs.Fields.{field, spare, wide, most_fluents, fluents_of, known_value, known_spare, role_of, fact_moment, fact_room}
use Rattle.words.proofs.Choices.{cond-all}

pub fluents-most : (head : ℕ) → fluents_of head ≤ 256
fluents-most head = cond-all (λ n. n ≤ 256) (wide head && eqb (field head 23 16) 0) (omega arith) (omega arith)

pub known_most : (head w : ℕ) → known_value head w ≤ 2
known_most head w = cond-all (λ v. v ≤ 2) (eqb (cond (wide head) (field w 8 8) (field w 6 6)) 0) (omega arith) (omega arith)

pub room_most : (head : ℕ) → fact_room head ≤ 16384
room_most head = cond-all (λ n. n ≤ 16384) (wide head) (omega arith) (omega arith)

pub room_least : (head : ℕ) → 4096 ≤ fact_room head
room_least head = cond-all (λ n. 4096 ≤ n) (wide head) (omega arith) (omega arith)

-- the facts of all fluents at 64 moments
pub room_exactly : (head : ℕ) → fact_room head ≡ 64 * most_fluents head
room_exactly head = cases (wide head)
  where
    cases : (t : Bool) → cond t 16384 4096 ≡ 64 * cond t 256 64
    cases true = refl
    cases false = refl

-- the fluents of a moment leave room for the next moment
pub moments_apart : (head t n : ℕ) → n ≤ most_fluents head → fact_moment head t + n * 2 ≤ fact_moment head (suc t)
moments_apart head t n = cases (wide head)
  where
    cases : (b : Bool) → n ≤ cond b 256 64 → cond b (t * 2 ^ 9) (t * 2 ^ 7) + n * 2 ≤ cond b (suc t * 2 ^ 9) (suc t * 2 ^ 7)
    cases true l = omega arith
    cases false l = omega arith

-- a word of kind 2 leaves spare the bit that tells the roles that make a value
pub no_role : (head w : ℕ) → known_spare head w ≡ true → role_of head w / 2 ≡ 0
no_role head w = cases (wide head)
  where
    cases : (t : Bool) → cond t (spare w 27 9) (spare w 27 7) ≡ true → cond t (field w 9 8) (field w 7 6) / 2 ≡ 0
    cases true e = omega (arith, eqb-true (field w 27 9) 0 e)
    cases false e = omega (arith, eqb-true (field w 27 7) 0 e)
