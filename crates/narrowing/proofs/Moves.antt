-- Open sets: a store of what one member may have; what fits still fits where begins and ends are left out. Assumes nothing.
use Prim.Native.Nat.{ℕ, ◌<◌}
use mathlib.Core.Path.{◌≡◌}
use mathlib.Core.Logic.{by_cases}
use mathlib.Core.List.{List}
use native.Mathlib.Decide.{ℕ_discrete}
use lib.ListN.{length, set}
use lib.Seq.{get_or-set_same, get_or-set_other}
use Rattle.bitset.specs.Code.Members.{In}
use Rattle.keeping.specs.declared.Choice.{Choice}
use Rattle.narrowing.specs.Code.Open.{choice_at, InDomains}
use Rattle.narrowing.specs.declared.Open.{Open}

-- what member k may have after a store for member i is what was stored, or what it had
pub choice_set : (P : Choice → Type 0) (l : List Choice) (i : ℕ) (v : Choice) {k : ℕ} → i < length l → (k ≡ i → P v) → ((k ≡ i → ⊥) → P (choice_at l k)) → P (choice_at (set l i v) k)
choice_set P l i v {k} room new old = by_cases (ℕ_discrete k i)
    (λ q. rw (q, get_or-set_same l i v (record { begins = 0; ends = 0 }) room) (new q))
    (λ n. rw (get_or-set_other l i k v (record { begins = 0; ends = 0 }) n) (old n))

-- what fits still fits where member i keeps its begin and its end, and no begin is added
pub fits-set : {count : ℕ} (o : Open) {bs es : ℕ → ℕ} (i : ℕ) (v : Choice) → i < length o.members → InDomains count o bs es
    → (i < count → In v.begins (bs i)) → (i < count → In v.ends (es i)) → ((x : ℕ) → In v.begins x → In (choice_at o.members i).begins x)
    → InDomains count (record { from = o.from; last = o.last; left = o.left; members = set o.members i v }) bs es
fits-set {count} o {bs} {es} i v room f begin end fewer = record {
  inside = f.inside;
  begins = λ k l. choice_set (λ m. In m.begins (bs k)) o.members i v room (λ q. rw q (begin (rw q at l))) (λ n. f.begins k l);
  ends = λ k l. choice_set (λ m. In m.ends (es k)) o.members i v room (λ q. rw q (end (rw q at l))) (λ n. f.ends k l);
  fixed = λ k x l n. choice_set (λ m. In m.begins x → x ≡ bs k) o.members i v room (λ q t. f.fixed k x l n (rw q (fewer x t))) (λ m. f.fixed k x l n);
}
