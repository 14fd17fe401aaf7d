-- The test `reads` tells the readings, where it goes deep enough: one step for each row that a row can rest on. Assumes nothing.
use Prim.Native.Nat.{ℕ, zero, suc, ◌+◌, ◌-◌, ◌*◌, ◌≤◌, ◌<◌, max}
use mathlib.Core.Bool.{Bool, true, false, not, ◌&&◌, ◌||◌, false≢true}
use mathlib.Core.Path.{◌≡◌, refl, ap}
use mathlib.Core.Logic.Iff
use mathlib.Core.Logic.{◌⊎◌, inl, inr, ◌↔◌, ⊎_elim, by_cases}
use mathlib.Core.List.{List, [], ◌∷◌}
use native.Mathlib.Decide.{dec_lt}
use native.Mathlib.Omega.{arith}
use lib.Dec.{eqb, leb}
use lib.ListN.{length, get_or}
use borrow.Author.Tests.{eqb-true, eq-eqb, leb-true, le-leb, not-true}
use Rattle.sets.specs.Code.Rows.{entry_at}
use Rattle.words.specs.Scan.{any_below}
use Rattle.words.specs.Tests.{implies}
use Rattle.words.proofs.Choices.{implies_true, within-true, true_within}
use Rattle.words.proofs.AnyBelow.{some_law}
use Rattle.words.proofs.AllBelow.{all_below, all_law}
use Rattle.words.specs.Fields.{fails, holds, condition_formula, condition_i, condition_j, condition_m, condition_n}
use Rattle.model.specs.Trajectory.{Trajectory}
use Rattle.model.specs.Procedure.{Procedure}
use Rattle.sets.specs.Set.{TaskSet, member_count, MetAs, Met, Placing}
use Rattle.sets.specs.Code.Set.{SetRule, Formed}
use Rattle.model.specs.Forms.{Form, Act, Test, Sequence, Choice, If, While, StartWindow, EndWindow, Set, Reserved, form_at, field_x, field_y, field_m, field_n, ConditionForm, BeginAfterBegin, BeginAfterEnd, HoldsBefore, HoldsAfter, HoldsBetween, ReservedCondition, condition_form}
use Rattle.reading.specs.Forms.{set_at}
use Rattle.reading.specs.Code.Forms.{NodeReadable}
use Rattle.reading.specs.Reading.{Quiet, HasReading}
use Rattle.reading.specs.Code.Rule.{InTurn, StartsWithin, EndsWithin, Rule}
use Rattle.cases.proofs.Decision.{through, metb, insideb, coveredb, conditionb, placingb, tried, setb, quietb, ruleb, reads}
use Rattle.reading.proofs.Step.{step, Filled, carry}

-- ---- tests

abbrev pub Tells : Bool → Type 0 → Type 0
Tells t A = (t ≡ true) ↔ A

-- the second test may rest on the first
and_given : {A B : Type 0} (s t : Bool) → Tells s A → (A → Tells t B) → Tells (s && t) (A × B)
and_given true t f g = (λ h. (f.0 refl, (g (f.0 refl)).0 h), λ h. (g h.0).1 h.1)
and_given false t f g = (λ h. absurd (false≢true h), λ h. f.1 h.0)

pub and_law : {A B : Type 0} (s t : Bool) → Tells s A → Tells t B → Tells (s && t) (A × B)
and_law s t f g = and_given s t f (λ a. g)

pub or_law : {A B : Type 0} (s t : Bool) → Tells s A → Tells t B → Tells (s || t) (A ⊎ B)
or_law true t f g = (λ h. inl (f.0 refl), λ h. refl)
or_law false t f g = (λ h. inr (g.0 h), ⊎_elim (λ a. absurd (false≢true (f.1 a))) g.1)

implied : (a b : Bool) → (a ≡ true → b ≡ true) → implies a b ≡ true
implied true b h = h refl
implied false b h = refl

pub eq_law : (a b : ℕ) → Tells (eqb a b) (a ≡ b)
eq_law a b = (eqb-true a b, eq-eqb a b)

pub le_law : (a b : ℕ) → Tells (leb a b) (a ≤ b)
le_law a b = (leb-true a b, le-leb a b)

-- ---- conditions and placings

through_law : (value : ℕ → ℕ) (n : ℕ) (f g : ℕ → Bool) (A B : ℕ → Type 0) → ((t : ℕ) → Tells (f t) (A t)) → ((t : ℕ) → Tells (g t) (B t))
    → ((t : ℕ) → A t → B t → t ≤ n) → Tells (through value n f g) ((t : ℕ) → A t → B t → value t ≡ holds)
through_law value n f g A B a b l = Iff.trans (all_law (λ t. implies (f t && g t) (eqb (value t) holds)) (suc n)) (
  λ h t x y. eqb-true (value t) holds (implies_true (f t && g t) (eqb (value t) holds) (h t (let u = l t x y in omega arith)) ((and_law (f t) (g t) (a t) (b t)).1 (x, y))),
  λ h t m. implied (f t && g t) (eqb (value t) holds) (λ q. let r = (and_law (f t) (g t) (a t) (b t)).0 q in eq-eqb (value t) holds (h t r.0 r.1)),
)

met_law : (value : ℕ → ℕ → ℕ) (n k M N bi ei bj : ℕ) (f : ConditionForm) → bi ≤ n → bj ≤ n → Tells (metb f value n k M N bi ei bj) (MetAs f value n k M N bi ei bj)
met_law value n k M N bi ei bj BeginAfterBegin h g = and_law _ _ (le_law (bi + M) bj) (le_law bj (bi + N))
met_law value n k M N bi ei bj BeginAfterEnd h g = and_law _ _ (le_law (ei + M) bj) (le_law bj (ei + N))
met_law value n k M N bi ei bj HoldsBefore h g =
    and_law _ _ (le_law N bi)
    (through_law (value k) n (λ t. leb bi (t + N)) (λ t. leb (t + M) bi) (λ t. bi ≤ t + N) (λ t. t + M ≤ bi) (λ t. le_law bi (t + N)) (λ t. le_law (t + M) bi) (λ t x y. omega arith))
met_law value n k M N bi ei bj HoldsAfter h g =
    and_given _ _ (le_law (ei + N) n)
    (λ l. through_law (value k) n (λ t. leb (ei + M) t) (λ t. leb t (ei + N)) (λ t. ei + M ≤ t) (λ t. t ≤ ei + N) (λ t. le_law (ei + M) t) (λ t. le_law t (ei + N)) (λ t x y. omega arith))
met_law value n k M N bi ei bj HoldsBetween h g =
    through_law (value k) n (λ t. leb (ei + M) t) (λ t. leb (t + N) bj) (λ t. ei + M ≤ t) (λ t. t + N ≤ bj) (λ t. le_law (ei + M) t) (λ t. le_law (t + N) bj) (λ t x y. omega arith)
met_law value n k M N bi ei bj ReservedCondition h g = (λ q. absurd (false≢true q), λ q. absurd q)

each_tells : {A : ℕ → Type 0} (f : ℕ → Bool) (k : ℕ) → ((i : ℕ) → i < k → Tells (f i) (A i)) → Tells (all_below f k) ((i : ℕ) → i < k → A i)
each_tells f k g = Iff.trans (all_law f k) (λ h i l. (g i l).0 (h i l), λ h i l. (g i l).1 (h i l))

module _ (b e : ℕ) (bs es : ℕ → ℕ) where
  inside_law : (i : ℕ) → Tells (insideb b e bs es i) ((b ≤ bs i) × (bs i ≤ es i) × (es i ≤ e))
  inside_law i = Iff.trans
      (and_law (leb b (bs i)) (leb (bs i) (es i) && leb (es i) e) (le_law b (bs i)) (and_law (leb (bs i) (es i)) (leb (es i) e) (le_law (bs i) (es i)) (le_law (es i) e)))
      (λ h. (h.0, h.1.0, h.1.1), λ h. (h.0, (h.1, h.2)))

  covers_law : (count : ℕ) → Tells (all_below (coveredb count b bs es) (suc e)) ((t : ℕ) → b ≤ t → t ≤ e → (i : ℕ) × (i < count) × (bs i ≤ t) × (t ≤ es i))
  covers_law count = Iff.trans (all_law (coveredb count b bs es) (suc e)) (
    λ h t x y.
        let r = (some_law (over t) count).0 (implies_true (leb b t) (any_below (over t) count) (h t (omega arith)) (le-leb b t x)) in
        let q = (both t r.0).0 r.2 in
        (r.0, r.1, q.0, q.1),
    λ h t l.
        implied (leb b t) (any_below (over t) count)
        (λ x. let r = h t (leb-true b t x) (omega arith) in (some_law (over t) count).1 (r.0, r.1, (both t r.0).1 (r.2, r.3))),
  )
    where
      over : ℕ → ℕ → Bool
      over t i = leb (bs i) t && leb t (es i)

      both : (t i : ℕ) → Tells (leb (bs i) t && leb t (es i)) ((bs i ≤ t) × (t ≤ es i))
      both t i = and_law (leb (bs i) t) (leb t (es i)) (le_law (bs i) t) (le_law t (es i))

  placing_law : {s : TaskSet} → Formed s → Tells (placingb s b e bs es) (Placing s b e bs es)
  unfolding placingb
  placing_law {s} g = Iff.trans
      (and_given _ _ (and_law (leb b e) (leb e s.last) (le_law b e) (le_law e s.last))
      (λ o. and_given _ _ (each_tells (insideb b e bs es) (member_count s) (λ i l. inside_law i))
      (λ i. and_law _ _ (covers_law (member_count s)) (each_tells (conditionb s bs es) (length s.conditions) (condition o i)))))
      (λ h. let ((onward, within), (inside, (covers, met))) = h in record { onward = onward; within = within; inside = inside; covers = covers; met = met }, λ p. ((p.onward, p.within), (p.inside, (p.covers, p.met))))
    where
      condition : (b ≤ e) × (e ≤ s.last) → ((i : ℕ) → i < member_count s → (b ≤ bs i) × (bs i ≤ es i) × (es i ≤ e))
          → (c : ℕ) → c < length s.conditions → Tells (conditionb s bs es c) (Met s (get_or s.conditions c 0) bs es)
      condition o inside c l =
          let w = get_or s.conditions c 0 in
          let i = inside (condition_i w) (g.named c l).0 in
          let j = inside (condition_j w) (g.named c l).1 in
          met_law s.value s.last (condition_formula w) (condition_m w) (condition_n w) (bs (condition_i w)) (es (condition_i w)) (bs (condition_j w)) (condition_form w)
          (omega arith) (omega arith)

-- ---- members tried one after the other

-- begins xs and ends ys below n with which the members ms read
data Chosen (R : ℕ → ℕ → ℕ → Bool) (n : ℕ) : List ℕ → List ℕ → List ℕ → Type 0 where
  none : Chosen R n [] [] []
  more : {m x y : ℕ} {ms xs ys : List ℕ} → x < n → y < n → R m x y ≡ true → Chosen R n ms xs ys → Chosen R n (m ∷ ms) (x ∷ xs) (y ∷ ys)

module _ (R : ℕ → ℕ → ℕ → Bool) (n : ℕ) where
  tried_found : (ms : List ℕ) (f : List ℕ → List ℕ → Bool) → tried R n ms f ≡ true → (xs : List ℕ) × (ys : List ℕ) × Chosen R n ms xs ys × (f xs ys ≡ true)
  unfolding tried
  tried_found [] f h = ([], [], none, h)
  tried_found (m ∷ ms) f h =
      let a = (some_law (λ x. any_below (λ y. R m x y && tried R n ms (λ xs ys. f (x ∷ xs) (y ∷ ys))) n) n).0 h in
      let b = (some_law (λ y. R m a.0 y && tried R n ms (λ xs ys. f (a.0 ∷ xs) (y ∷ ys))) n).0 a.2 in
      let c = (and_law (R m a.0 b.0) (tried R n ms (λ xs ys. f (a.0 ∷ xs) (b.0 ∷ ys))) Iff.rfl Iff.rfl).0 b.2 in
      let r = tried_found ms (λ xs ys. f (a.0 ∷ xs) (b.0 ∷ ys)) c.1 in
      (a.0 ∷ r.0, b.0 ∷ r.1, more a.1 b.1 c.0 r.2, r.3)

  found_tried : {ms xs ys : List ℕ} (f : List ℕ → List ℕ → Bool) → Chosen R n ms xs ys → f xs ys ≡ true → tried R n ms f ≡ true
  unfolding tried
  found_tried f none h = h
  found_tried f (more {m = m} {x = x} {y = y} {ms = ms} l k r c) h =
      (some_law (λ x. any_below (λ y. R m x y && tried R n ms (λ xs ys. f (x ∷ xs) (y ∷ ys))) n) n).1 (
        x,
        l,
        (some_law (λ y. R m x y && tried R n ms (λ xs ys. f (x ∷ xs) (y ∷ ys))) n).1
            (y, k, (and_law (R m x y) (tried R n ms (λ xs ys. f (x ∷ xs) (y ∷ ys))) Iff.rfl Iff.rfl).1 (r, found_tried (λ xs ys. f (x ∷ xs) (y ∷ ys)) c h)),
      )

  chosen_reads : {ms xs ys : List ℕ} → Chosen R n ms xs ys → (i : ℕ) → i < length ms → R (entry_at ms i) (entry_at xs i) (entry_at ys i) ≡ true
  chosen_reads none i l = absurd (omega arith)
  chosen_reads (more a b r c) zero l = r
  chosen_reads (more a b r c) (suc i) l = chosen_reads c i (omega arith)

  -- begins and ends as lists
  listed : (ms : List ℕ) (bs es : ℕ → ℕ) → ((i : ℕ) → i < length ms → (bs i < n) × (es i < n) × (R (entry_at ms i) (bs i) (es i) ≡ true))
      → (xs : List ℕ) × (ys : List ℕ) × Chosen R n ms xs ys × ((i : ℕ) → i < length ms → (entry_at xs i ≡ bs i) × (entry_at ys i ≡ es i))
  listed [] bs es h = ([], [], none, λ i l. absurd (omega arith))
  listed (m ∷ ms) bs es h =
      let a = h 0 (omega arith) in
      let r = listed ms (λ i. bs (suc i)) (λ i. es (suc i)) (λ i l. h (suc i) (omega arith)) in
      (bs 0 ∷ r.0, es 0 ∷ r.1, more a.0 a.1 a.2 r.2, same r.0 r.1 r.3)
    where
      same : (xs ys : List ℕ) → ((i : ℕ) → i < length ms → (entry_at xs i ≡ bs (suc i)) × (entry_at ys i ≡ es (suc i)))
          → (i : ℕ) → i < length (m ∷ ms) → (entry_at (bs 0 ∷ xs) i ≡ bs i) × (entry_at (es 0 ∷ ys) i ≡ es i)
      same xs ys g zero l = (refl, refl)
      same xs ys g (suc i) l = g i (omega arith)

-- a placing asks only for the begins and ends of the members
placing_same : {s : TaskSet} {b e : ℕ} {bs es bs' es' : ℕ → ℕ} → Formed s → ((i : ℕ) → i < member_count s → (bs' i ≡ bs i) × (es' i ≡ es i))
    → Placing s b e bs es → Placing s b e bs' es'
placing_same {s} g q h = record {
  onward = h.onward;
  within = h.within;
  inside = λ i l. let r = q i l in rw (r.0, r.1) (h.inside i l);
  covers = λ t x y. let k = h.covers t x y in let r = q k.0 k.1 in (k.0, k.1, rw r.0 k.2, rw r.1 k.3);
  met = λ c l. let w = get_or s.conditions c 0 in let i = q (condition_i w) (g.named c l).0 in let j = q (condition_j w) (g.named c l).1 in
      rw (i.0, i.1, j.0) (h.met c l);
}

set-law : {s : TaskSet} (R : ℕ → ℕ → ℕ → Bool) (b e : ℕ) → Formed s → Tells (setb s R b e) (SetRule s (λ q c d. R q c d ≡ true) b e)
unfolding setb
set-law {s} R b e g = (
  λ h.
      let r = tried_found R (suc s.last) s.members (λ xs ys. placingb s b e (entry_at xs) (entry_at ys)) h in
      record { begins = entry_at r.0; ends = entry_at r.1; reads = chosen_reads R (suc s.last) r.2; placing = (placing_law b e (entry_at r.0) (entry_at r.1) g).0 r.3 },
  λ h.
      let r = listed R (suc s.last) s.members h.begins h.ends (λ i l. let k = h.placing.inside i l in let m = h.placing.within in (omega arith, omega arith, h.reads i l)) in
      found_tried R (suc s.last) (λ xs ys. placingb s b e (entry_at xs) (entry_at ys)) r.2 ((placing_law b e (entry_at r.0) (entry_at r.1) g).1 (placing_same g r.3 h.placing)),
)

-- ---- the rule of each form, and the test k steps deep

-- some m from a to n between the two parts
between : (n a : ℕ) (f g : ℕ → Bool)
    → Tells (any_below (λ m. leb a m && (f m && g m)) (suc n)) (InTurn a n (λ m. f m ≡ true) (λ m. g m ≡ true))
between n a f g = Iff.trans (some_law (λ m. leb a m && (f m && g m)) (suc n)) (
  λ h. let r = (both h.0).0 h.2 in record { m = h.0; early = r.0; upto = omega (arith, h.1); left = r.1.0; right = r.1.1 },
  λ h. (h.m, omega (arith, h.upto), (both h.m).1 (h.early, (h.left, h.right))),
)
  where
    both : (m : ℕ) → Tells (leb a m && (f m && g m)) ((a ≤ m) × ((f m ≡ true) × (g m ≡ true)))
    both m = and_law (leb a m) (f m && g m) (le_law a m) (and_law (f m) (g m) Iff.rfl Iff.rfl)

-- lo ≤ m ≤ hi
within-law : (lo hi m : ℕ) → Tells (leb lo m && leb m hi) ((lo ≤ m) × (m ≤ hi))
within-law lo hi m = (within-true lo hi m, λ h. true_within lo hi m h.0 h.1)

start_law : (n e lo hi : ℕ) (f : ℕ → Bool) (g : ℕ → ℕ → Bool)
    → Tells (any_below (λ m. (leb lo m && leb m hi) && any_below (λ k. f k && any_below (λ l. eqb e (max k l) && g m l) (suc e)) (suc e)) (suc n))
    (StartsWithin lo hi n e (λ k. f k ≡ true) (λ m l. g m l ≡ true))
start_law n e lo hi f g = Iff.trans (some_law (λ m. (leb lo m && leb m hi) && any_below (first m) (suc e)) (suc n)) (
  λ h.
      let a = (outer h.0).0 h.2 in
      let b = (some_law (first h.0) (suc e)).0 a.1 in
      let c = (inner h.0 b.0).0 b.2 in
      let d = (some_law (second h.0 b.0) (suc e)).0 c.1 in
      let r = (last h.0 b.0 d.0).0 d.2 in
      record { m = h.0; early = a.0.0; late = a.0.1; upto = omega (arith, h.1); k = b.0; l = d.0; greater = r.0; left = c.0; right = r.1 },
  λ h.
      let m = h.m in
      let k = h.k in
      let l = h.l in
      let q = h.greater in
      (m, omega (arith, h.upto), (outer m).1 ((h.early, h.late), (some_law (first m) (suc e)).1 (k, omega arith, (inner m k).1 (h.left, (some_law (second m k) (suc e)).1 (l, omega arith, (last m k l).1 (q, h.right)))))),
)
  where
    second : ℕ → ℕ → ℕ → Bool
    second m k l = eqb e (max k l) && g m l

    first : ℕ → ℕ → Bool
    first m k = f k && any_below (λ l. eqb e (max k l) && g m l) (suc e)

    outer : (m : ℕ) → Tells ((leb lo m && leb m hi) && any_below (first m) (suc e)) (((lo ≤ m) × (m ≤ hi)) × (any_below (first m) (suc e) ≡ true))
    outer m = and_law (leb lo m && leb m hi) (any_below (first m) (suc e)) (within-law lo hi m) Iff.rfl

    inner : (m k : ℕ) → Tells (first m k) ((f k ≡ true) × (any_below (second m k) (suc e) ≡ true))
    inner m k = and_law (f k) (any_below (second m k) (suc e)) Iff.rfl Iff.rfl

    last : (m k l : ℕ) → Tells (second m k l) ((e ≡ max k l) × (g m l ≡ true))
    last m k l = and_law (eqb e (max k l)) (g m l) (eq_law e (max k l)) Iff.rfl

end_law : (n b M N : ℕ) (f g : ℕ → Bool) (q : ℕ → ℕ → Bool) (Q : ℕ → ℕ → Type 0) → ((k m : ℕ) → Tells (q k m) (Q k m))
    → Tells (any_below (λ k. (leb b k && f k) && any_below (λ m. (leb (k + M) m && leb m (k + N)) && (g m && q k m)) (suc n)) (suc n))
    (EndsWithin b M N n Q (λ k. f k ≡ true) (λ m. g m ≡ true))
end_law n b M N f g q Q law = Iff.trans (some_law (λ k. (leb b k && f k) && any_below (begin k) (suc n)) (suc n)) (
  λ h.
      let a = (outer h.0).0 h.2 in
      let c = (some_law (begin h.0) (suc n)).0 a.1 in
      let r = (inner h.0 c.0).0 c.2 in
      record { k = h.0; m = c.0; after = a.0.0; early = r.0.0; late = r.0.1; upto = omega (arith, c.1); left = a.0.1; right = r.1.0; quiet = r.1.1 },
  λ h.
      let k = h.k in
      let m = h.m in
      (k, omega (arith, h.early, h.upto), (outer k).1 ((h.after, h.left), (some_law (begin k) (suc n)).1 (m, omega (arith, h.upto), (inner k m).1 ((h.early, h.late), (h.right, h.quiet))))),
)
  where
    begin : ℕ → ℕ → Bool
    begin k m = (leb (k + M) m && leb m (k + N)) && (g m && q k m)

    outer : (k : ℕ) → Tells ((leb b k && f k) && any_below (begin k) (suc n)) (((b ≤ k) × (f k ≡ true)) × (any_below (begin k) (suc n) ≡ true))
    outer k = and_law (leb b k && f k) (any_below (begin k) (suc n)) (and_law (leb b k) (f k) (le_law b k) Iff.rfl) Iff.rfl

    inner : (k m : ℕ) → Tells (begin k m) (((k + M ≤ m) × (m ≤ k + N)) × ((g m ≡ true) × Q k m))
    inner k m = and_law (leb (k + M) m && leb m (k + N)) (g m && q k m) (within-law (k + M) (k + N) m) (and_law (g m) (q k m) Iff.rfl (law k m))

-- no action from 64 on starts
abbrev pub FewActions : Trajectory → Type 0
FewActions T = (a t : ℕ) → 64 ≤ a → T.starts a t ≡ false

-- a pause is quiet
quiet_tells : (T : Trajectory) → FewActions T → (k m : ℕ) → Tells (quietb T k m) (Quiet T k m)
quiet_tells T few k m = Iff.trans (all_law (λ t. implies (leb k t) (all_below (λ a. not (T.starts a t)) 64)) m) (
  λ h a t x y. by_cases (dec_lt a 64)
      (λ l. not-true (T.starts a t) ((all_law (λ a. not (T.starts a t)) 64).0 (implies_true (leb k t) _ (h t y) (le-leb k t x)) a l))
      (λ l. few a t (omega arith)),
  λ h t l. implied (leb k t) (all_below (λ a. not (T.starts a t)) 64) (λ e. (all_law (λ a. not (T.starts a t)) 64).1 (λ a b. ap not (h a t (leb-true k t e) l))),
)

rule_law : (P : Procedure) (T : Trajectory) (R : ℕ → ℕ → ℕ → Bool) → FewActions T → (k : Form) (p b e : ℕ) → (k ≡ Set → Formed (set_at P T p))
    → Tells (ruleb P T R k p b e) (Rule P T (λ q c d. R q c d ≡ true) k p b e)
unfolding ruleb
rule_law P T R few Act p b e g = Iff.trans
    (and_law _ _ Iff.rfl (and_law _ _ (eq_law e (b + T.duration (field_x P p))) (le_law e T.last)))
    (λ h. (h.0, h.1.0, h.1.1), λ h. (h.0, (h.1, h.2)))
rule_law P T R few Test p b e g = and_law _ _ (eq_law (T.value (field_x P p) b) holds) (eq_law e b)
rule_law P T R few Sequence p b e g = between T.last b (R (field_x P p) b) (λ m. R (field_y P p) m e)
rule_law P T R few Choice p b e g = or_law _ _ Iff.rfl Iff.rfl
rule_law P T R few If p b e g = or_law _ _
    (and_law _ _ (eq_law (T.value (field_x P p) b) holds) Iff.rfl)
    (and_law _ _ (eq_law (T.value (field_x P p) b) fails) Iff.rfl)
rule_law P T R few While p b e g = or_law _ _
    (and_law _ _ (eq_law (T.value (field_x P p) b) fails) (eq_law e b))
    (and_law _ _ (eq_law (T.value (field_x P p) b) holds) (between T.last (b + 1) (R (field_y P p) b) (λ m. R p m e)))
rule_law P T R few StartWindow p b e g = start_law T.last e (b + field_m P p) (b + field_n P p) (R (field_x P p) b) (R (field_y P p))
rule_law P T R few EndWindow p b e g = end_law T.last b (field_m P p) (field_n P p) (R (field_x P p) b) (λ m. R (field_y P p) m e) (quietb T) (Quiet T) (quiet_tells T few)
rule_law P T R few Set p b e g = set-law R b e (g refl)
rule_law P T R few Reserved p b e g = (λ h. absurd (false≢true h), λ h. absurd h)

-- a row before row b of p is fewer steps deep
nearer : {count n k p q c : ℕ} (b : ℕ) → n < 64 → p < count → p * 64 + (63 - b) < suc k → c ≤ n → Filled p (b + 1) q c → (q < count) × (q * 64 + (63 - c) < k)
nearer b small h d m (inl f) = (omega arith, omega arith)
nearer b small h d m (inr f) = (omega (arith, f.0), omega (arith, f.0, f.1))

pub decides : {P : Procedure} {T : Trajectory} → ((p : ℕ) → p < P.count → NodeReadable P T p) → T.last < 64 → FewActions T
    → (k p b e : ℕ) → p < P.count → b ≤ T.last → p * 64 + (63 - b) < k → (reads k P T p b e ≡ true) ↔ HasReading P T p b e
unfolding reads
decides g small few zero p b e h l d = absurd (omega arith)
decides {P} {T} g small few (suc k) p b e h l d = Iff.trans (rule_law P T (reads k P T) few (form_at P p) p b e (g p h).set) (
  λ r. (step l).1 (carry P T e (form_at P p) (g p h).lower l (λ q c e f m. let x = nearer b small h d m f in (decides g small few k q c e x.0 m x.1).0) r),
  λ r. carry P T e (form_at P p) (g p h).lower l (λ q c e f m. let x = nearer b small h d m f in (decides g small few k q c e x.0 m x.1).1) ((step l).0 r),
)
