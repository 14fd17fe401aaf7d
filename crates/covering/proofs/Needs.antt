-- From which end on a member asks nothing more. Assumes nothing.
use Prim.Native.Nat.{ℕ, ◌+◌, ◌-◌, ◌≤◌, ◌<◌}
use mathlib.Core.Logic.{◌↔◌}
use native.Mathlib.Omega.{arith}
use borrow.Author.Count.{below_more}
use Rattle.bitset.specs.Code.Members.{In}
use Rattle.covering.specs.Code.Cover.{SomeBelow, Reaches, Bridged, Needed}

-- r is the least member of m from x on, as far as e
abbrev pub LeastAt : ℕ → ℕ → ℕ → ℕ → Type 0
LeastAt m x r e = (r ≤ e) ↔ ((y : ℕ) × In m y × (x ≤ y) × (y ≤ e))

pub reaches : {Es : ℕ → ℕ} {i x e r : ℕ} → LeastAt (Es i) x r e → (r ≤ e) ↔ Reaches Es i x e
reaches h = (
  λ l. let s = h.0 l in record { end = s.0; member = s.1; late = s.2; upto = s.3 },
  λ s. h.1 (s.end, s.member, s.late, s.upto),
)

pub bridges : {count x e r : ℕ} {bs Es : ℕ → ℕ} (m : ℕ) → ((y : ℕ) → In m y ↔ SomeBelow count (λ i. (bs i < x) × In (Es i) y)) → LeastAt m (x - 1) r e
    → (r ≤ e) ↔ Bridged count bs Es x e
bridges m is h = (
  λ l. let s = h.0 l in let j = (is s.0).0 s.1 in
      record { at = j.at; below = j.below; is = (j.is.0, record { end = s.0; member = j.is.1; late = s.2; upto = s.3 }) },
  λ j. let k = j.is.1 in h.1 (k.end, (is k.end).1 (record { at = j.at; below = j.below; is = (j.is.0, k.member) }), k.late, k.upto),
)

-- a member that begins at b asks for an end of its own alone
pub needed_own : {count b i e r : ℕ} {bs Es : ℕ → ℕ} → (b < bs i → ⊥) → (r ≤ e) ↔ Reaches Es i 0 e → (r ≤ e) ↔ Needed count bs Es b i e
needed_own n h = (λ l. record { each = h.0 l; bridged = λ g. absurd (n g) }, λ s. h.1 s.each)

pub needed_both : {count b i e r own bridge : ℕ} {bs Es : ℕ → ℕ} → b < bs i → (own ≤ e) ↔ Reaches Es i 0 e → (bridge ≤ e) ↔ Bridged count bs Es (bs i) e
    → (r ≤ e) ↔ ((own ≤ e) × (bridge ≤ e)) → (r ≤ e) ↔ Needed count bs Es b i e
needed_both g h k m = (
  λ l. let s = m.0 l in record { each = h.0 s.0; bridged = λ z. k.0 s.1 },
  λ s. m.1 (h.1 s.each, k.1 (s.bridged g)),
)

-- one member more, where each asks for an end
pub all_more : {P : ℕ → Type 0} {i least own next e : ℕ} → (least ≤ e) ↔ ((j : ℕ) → j < i → P j) → (own ≤ e) ↔ P i
    → (next ≤ e) ↔ ((least ≤ e) × (own ≤ e)) → (next ≤ e) ↔ ((j : ℕ) → j < i + 1 → P j)
all_more {P} {i} old new next = (
  λ h. below_more P i (old.0 (next.0 h).0) (new.0 (next.0 h).1),
  λ h. next.1 (old.1 (λ j l. h j (omega arith)), new.1 (h i (omega arith))),
)
