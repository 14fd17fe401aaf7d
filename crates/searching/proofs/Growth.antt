-- What a search adds, one step after the other, and what it has still to find. Assumes nothing.
use Prim.Native.Nat.{ℕ, ◌+◌, ◌≤◌, ◌<◌}
use mathlib.Core.Path.{◌≡◌, refl, sym, ◌∙◌, subst}
use mathlib.Core.Bool.{not, ◌&&◌}
use mathlib.Core.Logic.{◌⊎◌, inl, inr, by_cases, ⊎_elim}
use native.Mathlib.Decide.{ℕ_discrete}
use native.Mathlib.Omega.{arith}
use lib.Dec.{eqb}
use Rattle.bitset.specs.Code.Members.{has, In, IsSetOf, pop_count, Lowest, Dropped}
use Rattle.bitset.proofs.Counts.{count-but}
use Rattle.bitset.proofs.In.{in_dropped, in_zero}
use Rattle.keeping.specs.declared.Tables.{Tables}
use Rattle.ending.specs.Code.Search.{Masked, SearchReady, Grown, SoughtPlacement, FindsAll}
use Rattle.narrowing.specs.Code.Tables.{InTables, BoundsHave}
use Rattle.narrowing.specs.Code.Open.{choice_at, InDomains}
use Rattle.narrowing.specs.declared.Open.{Open}
use Rattle.ending.specs.declared.Found.{Found}

-- one member fewer is left
pub fewer : (x r i : ℕ) → IsSetOf r (λ k. has x k && not (eqb k i)) → In x i → i < 64 → pop_count r + 1 ≡ pop_count x
fewer x r i but t l = count-but (has x) (has r) i but 64 t.yes l

module _ {t : Tables} {b : ℕ} where
  pub grown_none : {f : Found} → Grown t b f f
  grown_none = record { upto = refl; kept = λ e t. t; reads = λ e t. inl t; begins = λ h. h; within = λ h. h; moments = λ h. h }

  pub grown_more : {f g h : Found} → Grown t b f g → Grown t b g h → Grown t b f h
  grown_more m n = record {
    upto = n.upto ∙ m.upto;
    kept = λ e t. n.kept e (m.kept e t);
    reads = λ e t. ⊎_elim (m.reads e) inr (n.reads e t);
    begins = λ k. n.begins (m.begins k);
    within = λ k. n.within (m.within k);
    moments = λ k. n.moments (m.moments k);
  }

pub grown_as : {t : Tables} {b b' : ℕ} {f g : Found} → b ≡ b' → Grown t b f g → Grown t b' f g
grown_as {t} {f = f} {g = g} q h = subst (λ (x : ℕ). Grown t x f g) q h

pub ready_as : {t : Tables} {a a' z z' : ℕ} → a ≡ a' → z ≡ z' → SearchReady t a z → SearchReady t a' z'
ready_as {t} {a} {a'} {z} p q h = subst (λ (x : ℕ). SearchReady t a' x) q (subst (λ (x : ℕ). SearchReady t x z) p h)

-- each placement that is sought is found, or has something that is still to be tried
pub record Untried (t : Tables) (o : Open) (r : Found) (P : (ℕ → ℕ) → (ℕ → ℕ) → Type 0) : Type 0 where
  pub each : (e : ℕ) (bs es : ℕ → ℕ) → e ≤ r.upto → SoughtPlacement t o e bs es → In r.ends e ⊎ P bs es

-- a begin of member i, or a member that begins by g and ends at h or later
abbrev pub Begin : ℕ → ℕ → (ℕ → ℕ) → (ℕ → ℕ) → Type 0
Begin rest i bs es = In rest (bs i)

abbrev pub Over : ℕ → ℕ → ℕ → (ℕ → ℕ) → (ℕ → ℕ) → Type 0
Over rest g h bs es = (i : ℕ) × In rest i × (bs i ≤ g) × (h ≤ es i)

module _ {t : Tables} where
  -- a placement that is sought is sought in each set from the same moment, with the same last member, in which it fits
  pub sought_as : {o o' : Open} {e : ℕ} {bs es : ℕ → ℕ} → o'.from ≡ o.from → o'.last ≡ o.last → SoughtPlacement t o e bs es
      → InDomains t.count o' bs es → SoughtPlacement t o' e bs es
  sought_as {e = e} {bs = bs} {es = es} p q h f = record {
    masked = subst (λ (b : ℕ). Masked t b e bs es) (sym p) h.masked;
    tables = subst (λ (b : ℕ). InTables t b bs es) (sym p) h.tables;
    bounded = h.bounded;
    fits = f;
    final = subst (λ (k : ℕ). es k ≡ e) (sym q) h.final;
  }

  -- a begin of member i is tried
  pub tried : {o next : Open} {r r' : Found} {i x rest rest' : ℕ} → next.from ≡ o.from → next.last ≡ o.last → Lowest rest x → Dropped rest rest'
      → ((bs es : ℕ → ℕ) → InTables t o.from bs es → BoundsHave t.count t.bounds bs es → InDomains t.count o bs es → bs i ≡ x → In r.ends (es o.last) ⊎ InDomains t.count next bs es)
      → Grown t o.from r r' → FindsAll t next r'
      → Untried t o r (Begin rest i) → Untried t o r' (Begin rest' i)
  tried {o} {r = r} {r' = r'} {i = i} {x = x} p q low drop place grown all h = record {
    each = λ e bs es l s. ⊎_elim
        (λ t. inl (grown.kept e t))
        (λ t. by_cases (ℕ_discrete (bs i) x)
        (λ z. inl (⊎_elim (λ f. grown.kept e (subst (λ (k : ℕ). In r.ends k) s.final f)) (λ f. all e bs es l (sought_as p q s f)) (place bs es s.tables s.bounded s.fits z)))
        (λ z. inr ((in_dropped low drop (bs i)).1 (t, z))))
        (h.each e bs es (subst (λ (k : ℕ). e ≤ k) grown.upto l) s);
  }

  -- a begin with which nothing fits is left out
  pub skipped : {o : Open} {r : Found} {i x rest rest' : ℕ} → Lowest rest x → Dropped rest rest'
      → ((bs es : ℕ → ℕ) → InTables t o.from bs es → InDomains t.count o bs es → bs i ≡ x → ⊥)
      → Untried t o r (Begin rest i) → Untried t o r (Begin rest' i)
  skipped {i = i} {x = x} low drop none h = record {
    each = λ e bs es l s. ⊎_elim inl
        (λ t. by_cases (ℕ_discrete (bs i) x) (λ z. absurd (none bs es s.tables s.fits z)) (λ z. inr ((in_dropped low drop (bs i)).1 (t, z))))
        (h.each e bs es l s);
  }

  -- member i is tried so
  pub tried_over : {o next : Open} {r r' : Found} {i g late rest rest' : ℕ} → next.from ≡ o.from → next.last ≡ o.last → Lowest rest i → Dropped rest rest'
      → ((bs es : ℕ → ℕ) → InDomains t.count o bs es → bs i ≤ g → late ≤ es i → InDomains t.count next bs es)
      → Grown t o.from r r' → FindsAll t next r'
      → Untried t o r (Over rest g late) → Untried t o r' (Over rest' g late)
  tried_over {i = i} {g = g} {late = late} p q low drop over grown all h = record {
    each = λ e bs es l s. ⊎_elim
        (λ t. inl (grown.kept e t))
        (λ t. by_cases (ℕ_discrete t.0 i)
        (λ z. inl (all e bs es l (sought_as p q s (over bs es s.fits (subst (λ (k : ℕ). bs k ≤ g) z t.2) (subst (λ (k : ℕ). late ≤ es k) z t.3)))))
        (λ z. inr (t.0, (in_dropped low drop t.0).1 (t.1, z), t.2, t.3)))
        (h.each e bs es (subst (λ (k : ℕ). e ≤ k) grown.upto l) s);
  }

  -- nothing is left to try
  pub all_tried : {o : Open} {r : Found} {P : (ℕ → ℕ) → (ℕ → ℕ) → Type 0} → ((bs es : ℕ → ℕ) → P bs es → ⊥) → Untried t o r P
      → FindsAll t o r
  all_tried n h e bs es l s = ⊎_elim (λ t. t) (λ p. absurd (n bs es p)) (h.each e bs es l s)

  -- a set with no end for its last member has no placement
  pub finds_none : (o : Open) (r : Found) → o.last < t.count → (choice_at o.members o.last).ends ≡ 0 → FindsAll t o r
  finds_none o r l z e bs es g s = in_zero z (s.fits.ends o.last l)

-- the member over g, where g and h are gaps: they are one, or one member alone is left
pub over_both : {left g h : ℕ} {bs es : ℕ → ℕ} → (h ≡ g) ⊎ ((i j : ℕ) → In left i → In left j → i ≡ j) → (i : ℕ) × In left i × (bs i ≤ g) × (g ≤ es i)
    → (i : ℕ) × In left i × (bs i ≤ h) × (h ≤ es i) → Over left g h bs es
over_both {g = g} {bs = bs} q a b = ⊎_elim
    (λ z. (a.0, a.1, a.2, omega (arith, z, a.3)))
    (λ z. (b.0, b.1, subst (λ (k : ℕ). bs k ≤ g) (z a.0 b.0 a.1 b.1) a.2, b.3))
    q
