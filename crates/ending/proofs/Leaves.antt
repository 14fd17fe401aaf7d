-- A set whose begins are all fixed: the ends that its members may have. Assumes nothing.
use Prim.Native.Nat.{ℕ, zero, suc, ◌+◌, ◌*◌, ◌≤◌, ◌<◌}
use mathlib.Core.Path.{◌≡◌, refl, sym, subst}
use mathlib.Core.Bool.{false}
use mathlib.Core.Logic.{◌↔◌, ◌⊎◌, inl, inr, by_cases, ⊎_elim}
use mathlib.Core.List.{List}
use native.Mathlib.Decide.{dec_lt}
use native.Mathlib.Nat.{le_refl}
use native.Mathlib.Omega.{arith}
use lib.ListN.{length, get_or, take}
use Rattle.std.proofs.lemmas.List.{get_or-take, length-take-le}
use Rattle.bitset.specs.Code.Members.{has, Highest, In}
use Rattle.bitset.proofs.Bools.{not_both, either}
use Rattle.words.specs.Fields.{condition_i}
use Rattle.model.specs.Forms.{condition_form}
use Rattle.covering.specs.Code.Cover.{entry_at, Coverable}
use Rattle.ending.specs.Code.Ends.{asked, partner_of, MetByMask, EndAt}
use Rattle.keeping.specs.Code.Tables.{pair_at}
use Rattle.keeping.specs.declared.Tables.{Tables}
use Rattle.ending.specs.Code.Search.{Masked, SearchReady, ReadsWith}
use Rattle.covering.proofs.Cover.{coverable, covering, coverable_as}
use Rattle.ending.proofs.Conditions.{partner-less}

-- the greatest member up to e, or there is none
greatest : (x e : ℕ) → ((m : ℕ) × Highest x e m) ⊎ ((k : ℕ) → k ≤ e → has x k ≡ false)
greatest x zero = ⊎_elim
    (λ t. inl (0, record { upto = le_refl 0; member = t; last = λ k l g. absurd (omega arith) }))
    (λ f. inr (λ k l. let q : 0 ≡ k = omega arith in subst (λ (j : ℕ). has x j ≡ false) q f))
    (either (has x 0))
greatest x (suc e) = ⊎_elim
    (λ t. inl (suc e, record { upto = le_refl (suc e); member = t; last = λ k l g. absurd (omega arith) }))
    (λ f. ⊎_elim
    (λ m. let u = m.1.upto in inl (m.0, record { upto = omega arith; member = m.1.member; last = λ k l g. step f k g (m.1.last k l) }))
    (λ n. inr (λ k l. step f k l (n k)))
    (greatest x e))
    (either (has x (suc e)))
  where
    step : has x (suc e) ≡ false → (k : ℕ) → k ≤ suc e → (k ≤ e → has x k ≡ false) → has x k ≡ false
    step f k l h = by_cases (dec_lt k (suc e)) (λ g. h (omega arith)) (λ g. let q : suc e ≡ k = omega arith in subst (λ (j : ℕ). has x j ≡ false) q f)

-- ---- the first n begins and masks of two lists

module _ (l m : List ℕ) (n : ℕ) (few : n ≤ length l) (few' : n ≤ length m) where
  pub front_covers : {b e : ℕ} → Coverable (length (take n l)) (entry_at (take n l)) (entry_at (take n m)) b e ↔ Coverable n (entry_at l) (entry_at m) b e
  front_covers = rw (length-take-le n l few) (
    coverable_as (λ i k. get_or-take n l i 0 k) (λ i k. get_or-take n m i 0 k),
    coverable_as (λ i k. sym (get_or-take n l i 0 k)) (λ i k. sym (get_or-take n m i 0 k)),
  )

-- ---- the ends depend on the begins of the members alone

met_same : (cs allow : List ℕ) (bs bs' : ℕ → ℕ) (c e : ℕ) → let w = get_or cs c 0 in bs (partner_of w) ≡ bs' (partner_of w) → bs (condition_i w) ≡ bs' (condition_i w)
    → MetByMask cs allow bs c e → MetByMask cs allow bs' c e
met_same cs allow bs bs' c e p q h = let f = condition_form (get_or cs c 0) in
    subst (λ (x : ℕ). In (get_or allow (c * 64 + bs' (partner_of (get_or cs c 0))) 0) (asked f x e)) q
    (subst (λ (y : ℕ). In (get_or allow (c * 64 + y) 0) (asked f (bs (condition_i (get_or cs c 0))) e)) p h)

pub end_same : {t : Tables} {lo hi : ℕ} {bs bs' : ℕ → ℕ} → SearchReady t lo hi → ((i : ℕ) → i < t.count → bs i ≡ bs' i)
    → (i e : ℕ) → i < t.count → EndAt t bs i e → EndAt t bs' i e
end_same {t} {bs = bs} {bs' = bs'} r q i e l h = record {
  reads = subst (λ (x : ℕ). In (pair_at t.ends i i x) e) (q i l) h.reads;
  met = λ c m f. let n = r.named c m in
      met_same t.conditions.now t.allow bs bs' c e (q _ (partner-less (condition_form (get_or t.conditions.now c 0)) n.0 n.1)) (q _ n.0) (h.met c m f);
}

module _ {t : Tables} {b hi : ℕ} {bs Es : ℕ → ℕ} (ready : SearchReady t b hi)
    (sets : (i e : ℕ) → i < t.count → In (Es i) e ↔ EndAt t bs i e) (range : (i : ℕ) → i < t.count → (b ≤ bs i) × (bs i ≤ hi)) where
  pub onward : (i e : ℕ) → i < t.count → In (Es i) e → (bs i ≤ e) × (e ≤ hi)
  onward i e l t = ready.onward i (bs i) e l (range i l).0 (range i l).1 ((sets i e l).0 t).reads

  -- the greatest ends do
  pub masked_top : {e : ℕ} {es : ℕ → ℕ} → Coverable t.count bs Es b e → ((i : ℕ) → i < t.count → Highest (Es i) e (es i)) → Masked t b e bs es
  masked_top h top = let c = covering ready.some (λ i l. (range i l).0) (λ i x l t. (onward i x l t).0) h top in record {
    inside = λ i l. ((range i l).0, (onward i _ l (c.chosen i l).0).0, (c.chosen i l).1);
    covers = c.covers;
    lawful = λ i l. (sets i _ l).0 (c.chosen i l).0;
  }

  pub reads_with : {e : ℕ} → Coverable t.count bs Es b e → ReadsWith t b e bs
  reads_with {e} h =
      let top : (i : ℕ) → (m : ℕ) × (i < t.count → Highest (Es i) e m)
      = λ i. ⊎_elim (λ t. (t.0, λ l. t.1)) (λ n. (0, λ l. let r = (h.needs i l).each in not_both r.member.yes (n r.end r.upto))) (greatest (Es i) e) in
      record { es = λ i. (top i).0; masked = masked_top h (λ i l. (top i).1 l) }

  -- the ends of all placements with these begins are covered
  pub covers_all : {e : ℕ} {bs' es : ℕ → ℕ} → ((i : ℕ) → i < t.count → bs' i ≡ bs i) → Masked t b e bs' es → Coverable t.count bs Es b e
  covers_all q m = coverable ready.some (λ i l. (range i l).0) (λ i x l t. (onward i x l t).0) (record {
    chosen = λ i l. ((sets i _ l).1 (end_same ready q i _ l (m.lawful i l)), (m.inside i l).2);
    covers = λ t g u. let k = m.covers t g u in (k.0, k.1, subst (λ (x : ℕ). x ≤ t) (q k.0 k.1) k.2, k.3);
  })

-- begins with which the set reads b to e, and the greatest ends for them
pub top_ends : {t : Tables} {b e : ℕ} {bs Es es es' : ℕ → ℕ} → SearchReady t b e
    → ((i e : ℕ) → i < t.count → In (Es i) e ↔ EndAt t bs i e) → Masked t b e bs es
    → ((i : ℕ) → i < t.count → Highest (Es i) e (es' i)) → Masked t b e bs es'
top_ends {t} {b} {e} {bs} r sets m top =
    let range : (i : ℕ) → i < t.count → (b ≤ bs i) × (bs i ≤ e) = λ i l. let o = m.inside i l in (o.0, omega (arith, o)) in
    masked_top r sets range (covers_all r sets range (λ i l. refl) m) top
