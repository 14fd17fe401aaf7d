-- Laws of the two sets of nodes that are named: one name more, and which nodes are named exactly once. Assumes nothing.
use mathlib.Core.Bool.{Bool, true, false, not, cond, ◌&&◌, ◌||◌, or-true, or-false}
use mathlib.Core.List.{List}
use mathlib.Core.Path.{◌≡◌, refl, ap, ◌∙◌}
use Prim.Native.Nat.{ℕ, zero, suc, ◌+◌}
use native.Mathlib.Omega.{arith}
use borrow.Author.Tests.{le-leb, ne_eqb}
use lib.Dec.{eqb, leb}
use Rattle.words.specs.Tests.{indicator}
use Rattle.bitset.specs.Code.Members.{has, IsSetOf}
use Rattle.job.specs.Before.{named}
use Rattle.job.specs.Refusal.{name_refusal}
use Rattle.job.specs.declared.names.Names.{Names}
use Rattle.job.specs.Code.Names.{NamedTimes}

-- two tellings of how often each node is named
pub named-same : {n m : ℕ → ℕ} {s : Names} → NamedTimes n s → ((v : ℕ) → n v ≡ m v) → NamedTimes m s
named-same h e = record { named = λ v. h.named v ∙ ap (leb 1) (e v); again = λ v. h.again v ∙ ap (leb 2) (e v) }

-- A node that is named n times, and once more if t, is named at least once just where it was so before or t is true.
pub named_more : (n : ℕ) (t : Bool) → (leb 1 n || t) ≡ leb 1 (n + indicator t)
named_more n false = let e : n + 0 ≡ n = omega arith in rw (e, or-false (leb 1 n))
named_more n true = rw (or-true (leb 1 n), le-leb 1 (n + 1) (omega arith))

exactly_once : (n : ℕ) → (leb 1 n && not (leb 2 n)) ≡ eqb n 1
exactly_once zero = refl
exactly_once (suc zero) = refl
exactly_once (suc (suc n)) = rw (le-leb 1 (suc (suc n)) (omega arith), le-leb 2 (suc (suc n)) (omega arith), ne_eqb (suc (suc n)) 1 (λ z. omega arith))

-- the nodes that are in the first set alone are those that are named exactly once, and the others are refused
pub once_set : (p : List ℕ) {s : Names} (x : ℕ) → NamedTimes (λ v. named v p) s → IsSetOf x (λ v. has s.named v && not (has s.again v))
    → IsSetOf x (λ v. eqb (named v p) 1)
once_set p x h is v = is v ∙ rw (h.named v, h.again v) (exactly_once (named v p))

pub name_told : (p : List ℕ) (x : ℕ) → IsSetOf x (λ v. eqb (named v p) 1) → (v : ℕ) {t : Bool} → has x v ≡ t → name_refusal p v ≡ cond t 0 5
unfolding name_refusal
name_told p x once v e = rw (← e, once v)
