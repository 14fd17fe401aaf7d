-- Facts of the words before a word. Those words are a list, the nearest first, so that each fact is a recursion on it.
use Rattle.std.specs.Prelude.{cond, List, [], ◌∷◌, ℕ, zero, suc, ◌+◌, eqb, get_or}
use Rattle.words.specs.Tests.{indicator}
use Rattle.words.specs.Fields.{kind}
use Rattle.words.specs.Scan.{count}
use Rattle.job.specs.Children.{word_children}

-- the words before position i, the nearest first
unfoldable pub before : List ℕ → ℕ → List ℕ
before job zero = []
before job (suc i) = get_or job i 0 ∷ before job i

-- how many words are of kind k
unfoldable pub count_of_kind : ℕ → List ℕ → ℕ
count_of_kind k [] = 0
count_of_kind k (w ∷ p) = count_of_kind k p + indicator (eqb (kind w) k)

-- the words after the last one of kind k
unfoldable pub since : ℕ → List ℕ → List ℕ
since k [] = []
since k (w ∷ p) = cond (eqb (kind w) k) [] (w ∷ since k p)

-- the last word of kind k, or 0
unfoldable pub latest : ℕ → List ℕ → ℕ
latest k [] = 0
latest k (w ∷ p) = cond (eqb (kind w) k) w (latest k p)

-- how often node v is named as a child
unfoldable pub named : ℕ → List ℕ → ℕ
named v [] = 0
named v (w ∷ p) = named v p + count v (word_children w)
