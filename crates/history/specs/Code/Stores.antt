-- Between functions: what stores into a state or a table leave in it. `size`, of each record: as long as before.
use Rattle.std.specs.Prelude.{Bool, false, List, Option, MatchOption, ◌≡◌, ℕ, ◌+◌, ◌*◌, ◌<◌, ◌≤◌, eqb, length, get_or}
use Rattle.words.specs.Scan.{find_or}

-- each of the first n bytes is what the first word that passes its test gives it, or else as it was
pub record Overlaid (n : ℕ) (test : ℕ → ℕ → Bool) (gives : ℕ → ℕ → ℕ) (old words new : List ℕ) : Type 0 where
  pub size : length new ≡ length old
  pub value : (f : ℕ) → f < n → get_or new f 0 ≡ find_or (test f) (gives f) (get_or old f 0) words

-- what is read from a word: the fluent that it gives a value, and that value
abbrev pub Reads : (ℕ → ℕ → Bool) → (ℕ → ℕ → ℕ) → ℕ → Option (ℕ × ℕ) → Type 0
Reads test gives w r = MatchOption r ((f : ℕ) → test f w ≡ false) (λ p. (f : ℕ) → (test f w ≡ eqb p.0 f) × (gives f w ≡ p.1))

-- each of the first n bytes is made of the old one, and the others are as they were
pub record Mapped (n : ℕ) (make : ℕ → ℕ → ℕ) (old new : List ℕ) : Type 0 where
  pub size : length new ≡ length old
  pub value : (f : ℕ) → f < n → get_or new f 0 ≡ make f (get_or old f 0)
  pub rest : (f : ℕ) → n ≤ f → get_or new f 0 ≡ get_or old f 0

-- a table of 64 numbers: each of the first n is one that is given for its place, and the others are 0
pub record EachGiven (n : ℕ) (Gives : ℕ → ℕ → Type 0) (table : List ℕ) : Type 0 where
  pub size : length table ≡ 64
  pub given : (a : ℕ) → a < n → Gives a (get_or table a 0)
  pub rest : (a : ℕ) → n ≤ a → get_or table a 0 ≡ 0

-- a table of rows of 256: the first n entries of row a are those of `row`, and those of the rows before it are as they were
pub record RowStored (row : List ℕ) (a n : ℕ) (old new : List ℕ) : Type 0 where
  pub size : length new ≡ length old
  pub here : (f : ℕ) → f < n → get_or new (a * 256 + f) 0 ≡ get_or row f 0
  pub earlier : (i : ℕ) → i < a * 256 → get_or new i 0 ≡ get_or old i 0
