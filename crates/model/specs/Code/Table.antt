-- Between functions: the table of ends: the set at p * 64 + b has the ends that node p reads to from b.
use Rattle.std.specs.Prelude.{ℕ, ◌+◌, ◌*◌, Bool, List, get_or}
use Rattle.bitset.specs.Code.Members.{has, In}

abbrev pub row_at : List ℕ → ℕ → ℕ → ℕ
row_at t p b = get_or t (p * 64 + b) 0

-- the table says that node p has the end e from b
abbrev pub InTable : List ℕ → ℕ → ℕ → ℕ → Type 0
InTable t p b e = In (row_at t p b) e

-- the same as a test
abbrev pub end_in : List ℕ → ℕ → ℕ → ℕ → Bool
end_in t p b e = has (row_at t p b) e
