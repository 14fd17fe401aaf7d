-- What each word of a list is, and each two of them, without their positions; a list with one word put in; the first words of a list.
use Rattle.std.specs.Prelude.{cond, List, [], ◌∷◌, ◌++◌, ℕ, ltb, take, replicate}

-- each word
pub data Each (P : ℕ → Type 0) : List ℕ → Type 0 where
  each_none : Each P []
  each_more : {s : ℕ} {ss : List ℕ} → P s → Each P ss → Each P (s ∷ ss)

-- each two, the earlier first
pub data Pairs (R : ℕ → ℕ → Type 0) : List ℕ → Type 0 where
  pairs-none : Pairs R []
  pairs-more : {s : ℕ} {ss : List ℕ} → Each (R s) ss → Pairs R ss → Pairs R (s ∷ ss)

-- the list with w put in, before the first word above it
unfoldable pub insert : ℕ → List ℕ → List ℕ
insert w [] = w ∷ []
insert w (s ∷ ss) = cond (ltb w s) (w ∷ s ∷ ss) (s ∷ insert w ss)

-- the words of a list, ascending
unfoldable pub sorted : List ℕ → List ℕ
sorted [] = []
sorted (w ∷ ws) = insert w (sorted ws)

-- the first n words, and zeros where there are fewer
abbrev pub first_words : ℕ → List ℕ → List ℕ
first_words n ws = take n (ws ++ replicate n 0)
