-- What a list of words has, by a test on a word.
use Rattle.std.specs.Prelude.{Bool, false, cond, ◌||◌, List, [], ◌∷◌, ◌++◌, ℕ, zero, suc, ◌+◌, eqb}
use Rattle.words.specs.Tests.{indicator}
-- some word passes; every word does; the words that pass, in their order; the words up to the first that fails
pub use Rattle.std.specs.List.{list_any as any, list_all as every, filter, take_while}

-- what the first word that passes gives, or `other` where none does
unfoldable pub find_or : (ℕ → Bool) → (ℕ → ℕ) → ℕ → List ℕ → ℕ
find_or test gives other [] = other
find_or test gives other (w ∷ ws) = cond (test w) (gives w) (find_or test gives other ws)

-- the words from the first that fails
unfoldable pub drop_while : (ℕ → Bool) → List ℕ → List ℕ
drop_while test [] = []
drop_while test (w ∷ ws) = cond (test w) (drop_while test ws) (w ∷ ws)

-- the words from number j of those that pass, counted from 0
unfoldable pub from_nth : (ℕ → Bool) → ℕ → List ℕ → List ℕ
from_nth test j [] = []
from_nth test zero (w ∷ ws) = cond (test w) (w ∷ ws) (from_nth test zero ws)
from_nth test (suc j) (w ∷ ws) = cond (test w) (from_nth test j ws) (from_nth test (suc j) ws)

-- some number below n passes
unfoldable pub any_below : (ℕ → Bool) → ℕ → Bool
any_below test zero = false
any_below test (suc n) = any_below test n || test n

-- how often q is in a list
unfoldable pub count : ℕ → List ℕ → ℕ
count q [] = 0
count q (x ∷ xs) = indicator (eqb q x) + count q xs

-- g 0, g 1, .. up to g (n − 1), one after the other
unfoldable pub concat_below : (ℕ → List ℕ) → ℕ → List ℕ
concat_below g zero = []
concat_below g (suc n) = concat_below g n ++ g n
