-- The entries of a list after a store, and those of a list of one value. Assumes nothing.
use mathlib.Core.List.{List}
use mathlib.Core.Logic.{by_cases}
use mathlib.Core.Path.{◌≡◌, sym, subst}
use Prim.Native.Nat.{ℕ, zero, suc, ◌+◌, ◌<◌}
use native.Mathlib.Decide.{ℕ_discrete}
use borrow.Author.Count.{below_more}
use lib.ListN.{length, get_or, set, replicate}
use lib.Seq.{get_or-set_same, get_or-set_other}

-- an entry after a store at i is the value stored, or what it was
pub entry_set : (P : ℕ → Type 0) (l : List ℕ) (i v : ℕ) {k : ℕ} → i < length l → (k ≡ i → P v) → ((k ≡ i → ⊥) → P (get_or l k 0)) → P (get_or (set l i v) k 0)
entry_set P l i v {k} room new old = by_cases (ℕ_discrete k i)
    (λ q. rw (q, get_or-set_same l i v 0 room) (new q))
    (λ n. rw (get_or-set_other l i k v 0 n) (old n))

-- what holds of each entry, and of the value stored, holds of each after the store
pub entries_set : (P : ℕ → ℕ → Type 0) (l : List ℕ) (i v : ℕ) → i < length l → P i v → ((k : ℕ) → P k (get_or l k 0)) → (k : ℕ) → P k (get_or (set l i v) k 0)
entries_set P l i v room new old k = entry_set (P k) l i v room (λ q. subst (λ (j : ℕ). P j v) (sym q) new) (λ n. old k)

-- of entries that stand apart, number k at `at k`: what holds of those below i, and of the value stored for i, holds of those below i + 1
pub entries_more : (at : ℕ → ℕ) (P : ℕ → ℕ → Type 0) (l : List ℕ) (i v : ℕ) → at i < length l → ((k : ℕ) → k < i → at k ≡ at i → ⊥)
    → ((k : ℕ) → k < i → P k (get_or l (at k) 0)) → P i v → (k : ℕ) → k < i + 1 → P k (get_or (set l (at i) v) (at k) 0)
entries_more at P l i v room apart old new =
    below_more (λ (k : ℕ). P k (get_or (set l (at i) v) (at k) 0)) i
    (λ k b. rw (get_or-set_other l (at i) (at k) v 0 (apart k b)) (old k b))
    (rw (get_or-set_same l (at i) v 0 room) new)

-- every entry of a list of one value is that value, or 0 past its end
pub entries_alike : (P : ℕ → Type 0) (n v : ℕ) → P v → P 0 → (k : ℕ) → P (get_or (replicate n v) k 0)
entries_alike P zero v p q k = q
entries_alike P (suc n) v p q zero = p
entries_alike P (suc n) v p q (suc k) = entries_alike P n v p q k
