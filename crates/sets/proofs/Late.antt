-- The bounds of begins by ends, as they are filled. Assumes nothing.
use Prim.Native.Nat.{ℕ, ◌+◌, ◌-◌, ◌*◌, ◌≤◌, ◌<◌}
use mathlib.Core.Path.{◌≡◌, refl, sym, ap, subst, ◌∙◌}
use mathlib.Core.Logic.{◌↔◌, ◌⊎◌, inl, inr, by_cases, ⊎_elim}
use mathlib.Core.List.{List}
use native.Mathlib.Decide.{dec_lt, ℕ_discrete}
use native.Mathlib.Omega.{arith}
use lib.ListN.{length, get_or, set, length-set}
use lib.Seq.{get_or-set_same, get_or-set_other}
use Rattle.bitset.specs.Code.Members.{In}
use Rattle.sets.specs.Code.Bounds.{Grows, EndMarked}
use Rattle.narrowing.specs.Code.Tables.{Bounded, BoundsHave}
use Rattle.sets.proofs.Pairs.{in_kept, stored_in}

-- the entry that is written
pub in_new : (l : List ℕ) (i v : ℕ) {k y : ℕ} → i < length l → k ≡ i → In v y → In (get_or (set l i v) k 0) y
in_new l i v {k} {y} room q t = rw (q, get_or-set_same l i v 0 room) t

-- nothing written, one entry written, and one step after the other
pub grows_none : {l : List ℕ} → Grows l l
grows_none = record { kept = λ q y t. t; words = λ q g. refl }

pub grows_set : {l : List ℕ} (i v : ℕ) → i < 2048 → ((y : ℕ) → In (get_or l i 0) y → In v y) → Grows l (set l i v)
grows_set {l} i v g more = record {
  kept = λ q y t. in_kept l i v t (λ r. more y (subst (λ (k : ℕ). In (get_or l k 0) y) r t));
  words = λ q h. get_or-set_other l i q v 0 (omega arith);
}

pub grows_more : {l m n : List ℕ} → Grows l m → Grows m n → Grows l n
grows_more g h = record { kept = λ q y t. h.kept q y (g.kept q y t); words = λ q l. h.words q l ∙ g.words q l }

pub marked_more : {l m : List ℕ} {p y e : ℕ} → Grows l m → EndMarked l p y e → EndMarked m p y e
marked_more g h = record {
  high = h.high;
  low = h.low;
  above = h.above;
  moment = h.moment;
  below = h.below;
  late = g.kept _ _ h.late;
  soon = g.kept _ _ h.soon;
}

pub marked_same : {l : List ℕ} {p y v e : ℕ} → v ≡ y → EndMarked l p y e → EndMarked l p v e
marked_same {l} {p} {e = e} q = subst (λ (y : ℕ). EndMarked l p y e) (sym q)

-- the entries of the first k turns have what those before them have, and so has `all`
pub record Joined (turn : ℕ → ℕ) (base : ℕ) (old new : List ℕ) (all k : ℕ) : Type 0 where
  pub long : length new ≡ 2052
  pub grows : Grows old new
  pub reached : (j y : ℕ) → j < k → In (get_or old (base + turn j) 0) y → In all y
  pub joined : (i j y : ℕ) → i ≤ j → j < k → In (get_or old (base + turn i) 0) y → In (get_or new (base + turn j) 0) y

pub joined_more : {turn : ℕ → ℕ} {base all : ℕ} {old l : List ℕ} (k q v : ℕ) → q ≡ base + turn k → q < 2048 → ((y : ℕ) → In v y ↔ (In all y ⊎ In (get_or l q 0) y))
    → Joined turn base old l all k → Joined turn base old (set l q v) v (k + 1)
joined_more {turn} {base} {all} {old} {l} k q v is room new h =
    let s = grows_set {l = l} q v room (λ y t. (new y).1 (inr t)) in
    let reached : (j y : ℕ) → j < k + 1 → In (get_or old (base + turn j) 0) y → In v y
    = λ j y b t. by_cases (dec_lt j k)
    (λ g. (new y).1 (inl (h.reached j y g t)))
    (λ g. let e : j ≡ k = omega arith in
    (new y).1 (inr (subst (λ (q : ℕ). In (get_or l q 0) y) (sym is) (subst (λ (j : ℕ). In (get_or l (base + turn j) 0) y) e (h.grows.kept _ _ t))))) in
    record {
      long = simp length-set h.long;
      grows = grows_more h.grows s;
      reached = reached;
      joined = λ i j y m b t. by_cases (dec_lt j k)
          (λ g. s.kept _ _ (h.joined i j y m g t))
          (λ g. let e : j ≡ k = omega arith in in_new l q v (omega (arith, h.long)) (ap (λ (j : ℕ). base + turn j) e ∙ sym is) (reached i y (omega arith) t));
    }

-- marked first, then each half is joined: the later ends from the last down, the sooner ones from the first up
pub bounded_joined : {l m n : List ℕ} {p y e : ℕ} → Grows l m → Grows m n
    → ((i j y : ℕ) → i ≤ j → j < 64 → In (get_or l (p * 64 + (63 - i)) 0) y → In (get_or m (p * 64 + (63 - j)) 0) y)
    → ((i j y : ℕ) → i ≤ j → j < 64 → In (get_or m (1024 + p * 64 + i) 0) y → In (get_or n (1024 + p * 64 + j) 0) y)
    → EndMarked l p y e → Bounded n p y e
bounded_joined {l} {m} {p = p} {y = y} g h down up k = record {
  late = λ d b.
      let high : k.high ≡ 63 - (63 - k.high) = omega (arith, k.moment) in
      let low : 63 - (63 - d) ≡ d = omega (arith, k.above, k.moment) in
      h.kept _ _ (subst (λ (d : ℕ). In (get_or m (p * 64 + d) 0) y) low (down (63 - k.high) (63 - d) y (omega (arith, k.above)) (omega arith)
      (subst (λ (d : ℕ). In (get_or l (p * 64 + d) 0) y) high k.late)));
  soon = λ d b r. up k.low d y (omega (arith, k.below)) r (g.kept _ _ k.soon);
}

-- one pair more, w and j, in the word of j
module _ {count : ℕ} {l m : List ℕ} {bs es : ℕ → ℕ} (w j v : ℕ) (small : j < 4) (g : Grows l m)
    (is : (k : ℕ) → In v k ↔ (In (get_or m (2048 + j) 0) k ⊎ (k ≡ w))) (b : Bounded m (w * 4 + j) (bs j) (es w)) (have : BoundsHave count l bs es) where
  abbrev after : List ℕ
  after = set m (2048 + j) v

  more : (q y : ℕ) → In (get_or m q 0) y → In (get_or after q 0) y
  more q y t = in_kept m (2048 + j) v t (λ r. (is y).1 (inl (subst (λ (k : ℕ). In (get_or m k 0) y) r t)))

  abbrev Row : ℕ → ℕ → Type 0
  Row w' j' = ((e : ℕ) → e ≤ es w' → In (get_or after ((w' * 4 + j') * 64 + e) 0) (bs j'))
      × ((e : ℕ) → es w' ≤ e → e < 64 → In (get_or after (1024 + (w' * 4 + j') * 64 + e) 0) (bs j'))

  old : (w' j' : ℕ) → w' < count → j' < count → In (get_or m (2048 + j') 0) w' → Row w' j'
  old w' j' f h t =
      let o = have w' j' f h (subst (λ (x : ℕ). In x w') (g.words (2048 + j') (omega arith)) t) in
      (λ e k. more _ _ (g.kept _ _ (o.0 e k)), λ e k n. more _ _ (g.kept _ _ (o.1 e k n)))

  new : (w' j' : ℕ) → w' ≡ w → j' ≡ j → Row w' j'
  new w' j' r q =
      let k : Bounded m (w' * 4 + j) (bs j) (es w') = subst (λ (w : ℕ). Bounded m (w * 4 + j) (bs j) (es w)) (sym r) b in
      let o : Bounded m (w' * 4 + j') (bs j') (es w') = subst (λ (j : ℕ). Bounded m (w' * 4 + j) (bs j) (es w')) (sym q) k in
      (λ e k. more _ _ (o.late e k), λ e k n. more _ _ (o.soon e k n))

  pub bounds_more : BoundsHave count after bs es
  bounds_more w' j' f h t = by_cases (ℕ_discrete j' j)
      (λ q.
      let u : In (get_or after (2048 + j) 0) w' = subst (λ (j : ℕ). In (get_or after (2048 + j) 0) w') q t in
      ⊎_elim (λ o. old w' j' f h (subst (λ (j : ℕ). In (get_or m (2048 + j) 0) w') (sym q) o)) (λ r. new w' j' r q)
      ((is w').0 (stored_in m (2048 + j) v u)))
      (λ n. old w' j' f h (subst (λ (x : ℕ). In x w') (get_or-set_other m (2048 + j) (2048 + j') v 0 (omega arith)) t))
