-- The table of 'and' is the lesser, that of 'or' the greater, and their entries are at most 2: each by a test that is computed over the table.
-- Assumes nothing.
use mathlib.Core.Bool.{true}
use mathlib.Core.List.{List}
use mathlib.Core.Path.{◌≡◌, refl}
use Prim.Native.Nat.{ℕ, ◌+◌, ◌*◌, ◌/◌, ◌%◌, ◌≤◌, min, max}
use native.Mathlib.Omega.{arith}
use borrow.Author.Tests.{eqb-true}
use lib.Dec.{eqb}
use lib.ListN.{get_or}
use Rattle.words.proofs.AllBelow.{all_below, all_law}
use Rattle.formulas.specs.Values.{and_table, or_table, by_table, AndLesser, OrGreater}

-- a table of three by three that passes is that operation
tabled : (op : ℕ → ℕ → ℕ) (table : List ℕ) → all_below (λ i. eqb (get_or table i 0) (op (i / 3) (i % 3))) 9 ≡ true
    → (a b : ℕ) → a ≤ 2 → b ≤ 2 → by_table table a b ≡ op a b
tabled op table e a b h l =
    let row : (a * 3 + b) / 3 ≡ a = omega arith in
    let column : (a * 3 + b) % 3 ≡ b = omega arith in
    rw (row, column) at (eqb-true (get_or table (a * 3 + b) 0) (op ((a * 3 + b) / 3) ((a * 3 + b) % 3)) ((all_law (λ i. eqb (get_or table i 0) (op (i / 3) (i % 3))) 9).0 e (a * 3 + b) (omega arith)))

pub and_lesser : AndLesser
unfolding all_below
and_lesser = tabled min and_table refl

pub or_greater : OrGreater
unfolding all_below
or_greater = tabled max or_table refl
