-- The laws of a set's tables: begins and ends are lawful by the masks and own rows where they are lawful by the rule. Assumes nothing.
use Prim.Native.Nat.{ℕ, zero, suc, ◌+◌, ◌*◌, ◌≤◌, ◌<◌}
use mathlib.Core.Path.{◌≡◌, refl, sym, ◌∙◌, ap, subst}
use mathlib.Core.Logic.{◌↔◌, by_cases}
use mathlib.Core.List.{List, [], ◌∷◌, map}
use native.Mathlib.Decide.{dec_lt, ℕ_discrete}
use native.Mathlib.Omega.{arith}
use lib.ListN.{length, get_or, set, length-set, length-map, get_or-map}
use lib.Seq.{get_or-set_same, get_or-set_other}
use Rattle.bitset.specs.Code.Members.{In}
use Rattle.bitset.proofs.In.{in_zero}
use Rattle.words.specs.Fields.{form, member_node, condition_formula, condition_i, condition_j, condition_m, condition_n}
use Rattle.model.specs.Forms.{ConditionForm, BeginAfterBegin, BeginAfterEnd, HoldsBefore, HoldsAfter, HoldsBetween, ReservedCondition, condition_number, condition_form}
use Rattle.model.specs.Code.Arrays.{value_in}
use Rattle.model.specs.Code.Table.{InTable}
use Rattle.sets.specs.Set.{TaskSet, member_count, MetAs, MetAt}
use Rattle.sets.specs.Code.Set.{member, Formed}
use Rattle.sets.specs.Code.Rows.{task_set_of, Placed}
use Rattle.ending.specs.Code.Ends.{asked, partner, partner_of, MetAtMask, MetByMask}
use Rattle.keeping.specs.Code.Tables.{pair_at}
use Rattle.keeping.specs.declared.Tables.{Tables}
use Rattle.narrowing.specs.Code.Tables.{EndsHave, GoesHave, BoundsHave, InTables}
use Rattle.ending.specs.Code.Search.{Masked}
use Rattle.sets.specs.Code.Masks.{Allowed}
use Rattle.sets.specs.Code.Tables.{Have, Fewer, LeftOut, Cut, InSpan, Unpruned, OwnRow, OwnRows, SameElse, TablesOf}
use Rattle.ending.proofs.Conditions.{partner-less}

-- ---- one mask of an array more

-- a mask with a member is one of the array's
in_range : (l : List ℕ) (q : ℕ) {e : ℕ} → In (get_or l q 0) e → q < length l
in_range [] q t = in_zero refl t
in_range (x ∷ l) zero t = omega arith
in_range (x ∷ l) (suc q) t = let h = in_range l q t in omega arith

-- what a stored mask v, at k, leaves
pub in_kept : (l : List ℕ) (k v : ℕ) {q e : ℕ} → In (get_or l q 0) e → (q ≡ k → In v e) → In (get_or (set l k v) q 0) e
in_kept l k v {q} {e} t same = by_cases (ℕ_discrete q k)
    (λ h. rw (h, get_or-set_same l k v 0 (subst (λ (q : ℕ). q < length l) h (in_range l q t))) (same h))
    (λ h. rw (get_or-set_other l k q v 0 h) t)

pub stored_in : (l : List ℕ) (k v : ℕ) {e : ℕ} → In (get_or (set l k v) k 0) e → In v e
stored_in l k v t = let g = simp length-set at (in_range (set l k v) k t) in rw (get_or-set_same l k v 0 g) at t

-- ---- a condition by its mask

-- a condition that asks for the begin or the end of member i asks the same where both are that moment, and nothing of any but its partner
asked-as : (f : ConditionForm) (value : ℕ → ℕ → ℕ) (n k M N i j e : ℕ) (bs : ℕ → ℕ)
    → MetAs f value n k M N (asked f (bs i) e) (asked f (bs i) e) (bs (partner f i j)) ↔ MetAs f value n k M N (bs i) e (bs j)
asked-as BeginAfterBegin value n k M N i j e bs = (λ h. h, λ h. h)
asked-as BeginAfterEnd value n k M N i j e bs = (λ h. h, λ h. h)
asked-as HoldsBefore value n k M N i j e bs = (λ h. h, λ h. h)
asked-as HoldsAfter value n k M N i j e bs = (λ h. h, λ h. h)
asked-as HoldsBetween value n k M N i j e bs = (λ h. h, λ h. h)
asked-as ReservedCondition value n k M N i j e bs = (λ h. h, λ h. h)

asked-within : (f : ConditionForm) {a z x e : ℕ} → a ≤ x → x ≤ e → e ≤ z → (a ≤ asked f x e) × (asked f x e ≤ z)
asked-within BeginAfterBegin g h l = (g, omega arith)
asked-within BeginAfterEnd g h l = (omega arith, l)
asked-within HoldsBefore g h l = (g, omega arith)
asked-within HoldsAfter g h l = (omega arith, l)
asked-within HoldsBetween g h l = (omega arith, l)
asked-within ReservedCondition g h l = (omega arith, l)

-- The partner that the fields of a condition word give, once they are read, is the word's partner.
pub partner-is : {f i j r : ℕ} (w : ℕ) → f ≡ form w → i ≡ condition_i w → j ≡ condition_j w → r ≡ partner (condition_number f) i j → r ≡ partner_of w
partner-is w p q s h = rw (p, q, s) at h

module _ {value : ℕ → ℕ → ℕ} {cs allow : List ℕ} {n a z count : ℕ} (allowed : Allowed value cs n a z (length cs) allow)
    (named : (c : ℕ) → c < length cs → (condition_i (get_or cs c 0) < count) × (condition_j (get_or cs c 0) < count))
    {bs es : ℕ → ℕ} (within : InSpan count a z bs es) where
  -- condition c is met by its mask where it is met
  pub mask_met : (c : ℕ) → c < length cs → let w = get_or cs c 0 in let i = condition_i w in
      MetByMask cs allow bs c (es i) ↔ MetAt value n w (bs i) (es i) (bs (condition_j w))
  mask_met c l =
      let w = get_or cs c 0 in
      let i = condition_i w in
      let j = condition_j w in
      let m = named c l in
      let o = within i m.0 in
      let p = within (partner_of w) (partner-less (condition_form w) m.0 m.1) in
      let k = allowed.mask c (bs (partner_of w)) (asked (condition_form w) (bs i) (es i)) l p.0 (omega arith) in
      let u = asked-as (condition_form w) value n (condition_formula w) (condition_m w) (condition_n w) i j (es i) bs in
      let v = asked-within (condition_form w) o.0 o.1 o.2 in
      (λ t. u.0 (k.0 t).2, λ t. k.1 (v.0, v.1, u.1 t))

-- ---- rows of pairs that the mask of condition c cuts

-- where row k, l of a table of pairs is cut, what the table has of i and j it still has, if the mask of the condition has what it has of k and l
cut_kept : (X W : ℕ → ℕ → ℕ) (allow T T' : List ℕ) (c k l count a z : ℕ) → count ≤ 4 → z < 64 → k < count → l < count
    → ((i j : ℕ) → i < count → j < count → (a ≤ X i j) × (X i j ≤ z)) → In (get_or allow (c * 64 + X k l) 0) (W k l)
    → Cut T (k * 4 + l) allow c a z T' → (i j : ℕ) → i < count → j < count → In (pair_at T i j (X i j)) (W i j) → In (pair_at T' i j (X i j)) (W i j)
cut_kept X W allow T T' c k l count a z few small kb lb within met cut i j ib jb t = cut ((i * 4 + j) * 64 + X i j) (W i j) t (λ y q g h.
    let w = within i j ib jb in
    let p : k ≡ i = omega arith in
    let r : l ≡ j = omega arith in
    let u : X i j ≡ y = omega arith in
    subst (λ (y : ℕ). In (get_or allow (c * 64 + y) 0) (W i j)) u
    (subst (λ (j : ℕ). In (get_or allow (c * 64 + X i j) 0) (W i j)) r (subst (λ (i : ℕ). In (get_or allow (c * 64 + X i l) 0) (W i l)) p met)))

module _ {E G : List ℕ} {count : ℕ} {bs es : ℕ → ℕ} (allow : List ℕ) (w i j c a z : ℕ) (few : count ≤ 4) (small : z < 64) (is : i ≡ condition_i w)
    (js : j ≡ partner_of w) (first : condition_i w < count) (second : condition_j w < count) (within : InSpan count a z bs es)
    (met : MetAtMask w allow bs c (es (condition_i w))) (have : Have E G count bs es) where
  -- Where the begins of i, where its partner j begins, are cut by a condition on the begin of i, the tables keep the begins and ends that meet it.
  pub cut_goes : {G' : List ℕ} → ((x e : ℕ) → asked (condition_form w) x e ≡ x) → Cut G (j * 4 + i) allow c a z G' → Have E G' count bs es
  cut_goes {G'} begin cut =
      let l = partner-less (condition_form w) first second in
      record {
        ends = have.ends;
        goes = λ k m g h. cut_kept (λ k m. bs k) (λ k m. bs m) allow G G' c j i count a z few small (omega arith) (omega arith)
            (λ k m g h. let o = within k g in (o.0, omega arith)) (rw (is, js) (rw begin at met)) cut k m g h (have.goes k m g h);
      }

  -- Where the ends of i, where its partner j begins, are cut by a condition on the end of i, the tables keep the begins and ends that meet it.
  pub cut_ends : {E' : List ℕ} → ((x e : ℕ) → asked (condition_form w) x e ≡ e) → Cut E (i * 4 + j) allow c a z E' → Have E' G count bs es
  cut_ends {E'} end cut =
      let l = partner-less (condition_form w) first second in
      record {
        ends = λ k m g h. cut_kept (λ k m. bs m) (λ k m. es k) allow E E' c i j count a z few small (omega arith) (omega arith)
            (λ k m g h. let o = within m h in (o.0, omega arith)) (rw (is, js) (rw end at met)) cut k m g h (have.ends k m g h);
        goes = have.goes;
      }

-- ---- own rows

-- the own row of member i with one begin more, x
module _ {R : ℕ → ℕ → Type 0} {goes old ends : List ℕ} (i x a z v : ℕ) (named : i < 4) (from : a ≤ x) (moment : x ≤ z) (upto : z < 64)
    (row : (e : ℕ) → In v e ↔ (R x e × (x ≤ e) × (e ≤ z) × In (pair_at ends i i x) e × In (pair_at goes i i x) x)) (h : OwnRow R goes i a z old ends x) where
  own_kept : {count : ℕ} {bs es : ℕ → ℕ} → i < count → count ≤ 4 → InSpan count a z bs es → R (bs i) (es i) → GoesHave count goes bs
      → EndsHave count ends bs es → EndsHave count (set ends ((i * 4 + i) * 64 + x) v) bs es
  own_kept {bs = bs} {es = es} one few within reads begins have j k g m = in_kept ends ((i * 4 + i) * 64 + x) v (have j k g m) (λ q.
      let o = within k m in
      let p : i ≡ j = omega arith in
      let r : k ≡ i = omega arith in
      let b : bs i ≡ x = omega (arith, ap bs r) in
      let w = within i one in
      subst (λ (j : ℕ). In v (es j)) p ((row (es i)).1 (
        subst (λ (x : ℕ). R x (es i)) b reads,
        omega arith,
        w.2,
        subst (λ (x : ℕ). In (pair_at ends i i x) (es i)) b (have i i one one),
        subst (λ (x : ℕ). In (pair_at goes i i x) x) b (begins i i one one),
      )))

  pub own_more : OwnRow R goes i a z old (set ends ((i * 4 + i) * 64 + x) v) (x + 1)
  own_more = record {
    own = λ y e l g t. by_cases (dec_lt y x)
        (λ b. h.own y e l b (rw (get_or-set_other ends ((i * 4 + i) * 64 + x) ((i * 4 + i) * 64 + y) v 0 (omega arith)) at t))
        (λ b.
        let q : y ≡ x = omega arith in
        let o = (row e).0 (stored_in ends ((i * 4 + i) * 64 + x) v (rw q at t)) in
        rw q (o.0, o.1, o.2));
    others = λ q l. rw (get_or-set_other ends ((i * 4 + i) * 64 + x) q v 0 (omega arith)) (h.others q l);
    kept = λ count bs es one few within reads begins have. own_kept one few within reads begins (h.kept count bs es one few within reads begins have);
  }

-- the own rows of one member more
pub own_rows_more : {members table goes old ends new : List ℕ} {a z : ℕ} (i m : ℕ) → length members ≤ 4 → i < length members → z < 64 → m ≡ member_node (get_or members i 0)
    → OwnRows members table goes a z old ends i → OwnRow (InTable table m) goes i a z ends new (z + 1) → OwnRows members table goes a z old new (i + 1)
own_rows_more {members} {table} {goes} {old} {ends} {new} {a} {z} i m few one upto is h r = record {
  own = λ j x e l g u t. by_cases (dec_lt j i)
      (λ b. h.own j x e b g u (rw (r.others ((j * 4 + j) * 64 + x) (omega arith)) at t))
      (λ b.
      let q : j ≡ i = omega arith in
      let o = r.own x e g (omega arith) (rw q at t) in
      rw (q, ← is) o);
  kept = λ bs es within reads begins have. r.kept (length members) bs es one few within (rw is (reads i one)) begins (h.kept bs es within reads begins have);
}

-- ---- one begin of a pair more

-- what is left of begins of j, where i begins at x
abbrev Partners : List ℕ → List ℕ → ℕ → ℕ → ℕ → ℕ → Type 0
Partners E G i j r x =
    (y d e : ℕ) → In (pair_at G i j x) y → In (pair_at E i i x) d → In (pair_at E i j y) d → In (pair_at E j j y) e → In (pair_at E j i x) e
    → In (pair_at G j i y) x → In r y

module _ {E G : List ℕ} {count : ℕ} {bs es : ℕ → ℕ} (i j x a z r s v : ℕ) (few : count ≤ 4) (small : z < 64) (moment : x ≤ z) (first : i < count)
    (second : j < count) (within : InSpan count a z bs es) (partners : Partners E G i j r x)
    (some : (y e : ℕ) → In r y → In (pair_at E i j y) e → In s e)
    (both : (e : ℕ) → In v e ↔ (In (pair_at E i i x) e × In s e)) (have : Have E G count bs es) where
  begins : bs i ≡ x → In r (bs j)
  begins b = subst (Partners E G i j r) (sym b) partners (bs j) (es i) (es j) (have.goes i j first second) (have.ends i i first first)
      (have.ends i j first second) (have.ends j j second second) (have.ends j i second first) (have.goes j i second first)

  pub pair_more : Have (set E ((i * 4 + i) * 64 + x) v) (set G ((i * 4 + j) * 64 + x) r) count bs es
  pair_more = record {
    ends = λ k l g h. in_kept E ((i * 4 + i) * 64 + x) v (have.ends k l g h) (λ q.
        let o = within l h in
        let p : i ≡ k = omega arith in
        let u : l ≡ i = omega arith in
        let b : bs i ≡ x = omega (arith, ap bs u) in
        subst (λ (k : ℕ). In v (es k)) p
        ((both (es i)).1 (
          subst (λ (x : ℕ). In (pair_at E i i x) (es i)) b (have.ends i i first first),
          some (bs j) (es i) (begins b) (have.ends i j first second),
        )));
    goes = λ k l g h. in_kept G ((i * 4 + j) * 64 + x) r (have.goes k l g h) (λ q.
        let o = within k g in
        let p : k ≡ i = omega arith in
        let u : j ≡ l = omega arith in
        let b : bs i ≡ x = omega (arith, ap bs p) in
        subst (λ (l : ℕ). In r (bs l)) u (begins b));
  }

pub fewer_more : (old E : List ℕ) (k v : ℕ) {s : ℕ} → ((e : ℕ) → In v e ↔ (In (get_or E k 0) e × In s e)) → Fewer old E → Fewer old (set E k v)
fewer_more old E k v both h p e t = by_cases (ℕ_discrete p k)
    (λ q. h p e (subst (λ (k : ℕ). In (get_or E k 0) e) (sym q)
    ((both e).0 (stored_in E k v (subst (λ (p : ℕ). In (get_or (set E k v) p 0) e) q t))).0))
    (λ q. h p e (rw (get_or-set_other E k p v 0 q) at t))

-- one step after the other leaves all else as it was
pub same_more : {t u v : Tables} → SameElse t u → SameElse u v → SameElse t v
same_more g h = record {
  masks = record { conditions = h.masks.conditions ∙ g.masks.conditions; count = h.masks.count ∙ g.masks.count; allow = h.masks.allow ∙ g.masks.allow };
  later = h.later ∙ g.later;
  bounds = h.bounds ∙ g.bounds;
}

-- a store into the ends or the begins leaves all else as it was
pub same_parts : {u v : Tables} → (v.conditions ≡ u.conditions) × (v.count ≡ u.count) × (v.allow ≡ u.allow) × (v.later ≡ u.later) × (v.bounds ≡ u.bounds) → SameElse u v
same_parts q = record { masks = record { conditions = q.0; count = q.1; allow = q.2 }; later = q.3; bounds = q.4 }

-- what one step after the other leaves out
pub left_more : {count a z : ℕ} {E G E' G' E₂ G₂ : List ℕ} → LeftOut count a z E G E' G' → LeftOut count a z E' G' E₂ G₂ → LeftOut count a z E G E₂ G₂
left_more v o = record { fewer = λ p e t. v.fewer p e (o.fewer p e t); kept = λ bs es w h. o.kept bs es w (v.kept bs es w h) }

-- Nothing is left out of tables that stay as they are.
pub left_none : {count a z : ℕ} {E G : List ℕ} → LeftOut count a z E G E G
left_none = record { fewer = λ p e t. t; kept = λ bs es w h. h }

-- ---- what the tables say

-- what is known of the tables once they are filled
pub record TablesFilled (s : TaskSet) (R : ℕ → ℕ → ℕ → Type 0) (a z : ℕ) (t : Tables) : Type 0 where
  pub formed : Formed s
  pub forward : a ≤ z
  pub upto : z ≤ s.last
  pub count : t.count ≡ member_count s
  pub allowed : Allowed s.value s.conditions s.last a z (length s.conditions) t.allow
  pub own : (i x e : ℕ) → i < member_count s → a ≤ x → x ≤ z → In (pair_at t.ends i i x) e → R (member s i) x e × (x ≤ e) × (e ≤ z)
  pub have : (bs es : ℕ → ℕ) → InSpan (member_count s) a z bs es
      → ((c : ℕ) → c < length s.conditions → MetByMask s.conditions t.allow bs c (es (condition_i (get_or s.conditions c 0))))
      → ((i : ℕ) → i < member_count s → R (member s i) (bs i) (es i)) → Have t.ends t.goes (member_count s) bs es
  pub after : (i x y e : ℕ) → i < member_count s → a ≤ x → x ≤ y → y ≤ z → In (pair_at t.ends i i y) e → In (get_or t.later (i * 64 + x) 0) e
  pub bounded : (bs es : ℕ → ℕ) → InSpan (member_count s) a z bs es → EndsHave (member_count s) t.ends bs es → BoundsHave (member_count s) t.bounds bs es

-- the set with the conditions of the tables
abbrev of_tables : TaskSet → Tables → TaskSet
of_tables s t = record s { conditions = t.conditions.now }

module _ (s₀ : TaskSet) {R : ℕ → ℕ → ℕ → Type 0} {a z : ℕ} {t : Tables} (f : TablesFilled (of_tables s₀ t) R a z t) where
  abbrev s : TaskSet
  s = of_tables s₀ t

  -- a member of the set is one of the tables', and one of the tables' is one of the set
  inner : {i : ℕ} → i < member_count s → i < t.count
  inner l = omega (arith, f.count)

  outer : {i : ℕ} → i < t.count → i < member_count s
  outer l = omega (arith, f.count)

  reads : (b e : ℕ) (bs es : ℕ → ℕ) → a ≤ b → e ≤ z → Masked t b e bs es → Placed s R b e bs es
  reads b e bs es l m h =
      let first = h.inside 0 (inner f.formed.some) in
      let within : (i : ℕ) → i < member_count s → (b ≤ bs i) × (bs i ≤ es i) × (es i ≤ e) = λ i g. h.inside i (inner g) in
      let inside : InSpan (member_count s) a z bs es = λ i g. let k = within i g in (omega arith, k.1, omega arith) in
      record {
        reads = λ i g. let o = inside i g in (f.own i (bs i) (es i) g o.0 (omega arith) (h.lawful i (inner g)).reads).0;
        placing = record {
          onward = omega arith;
          within = omega (arith, f.upto);
          inside = within;
          covers = λ m g u. let k = h.covers m g u in (k.0, outer k.1, k.2, k.3);
          met = λ c g. (mask_met f.allowed f.formed.named inside c g).0
              ((h.lawful (condition_i (get_or s.conditions c 0)) (inner (f.formed.named c g).0)).met c g refl);
        };
      }

  placed_within : {b e : ℕ} {bs es : ℕ → ℕ} → a ≤ b → e ≤ z → Placed s R b e bs es → InSpan (member_count s) a z bs es
  placed_within l g h i m = let o = h.placing.inside i m in (omega arith, o.1, omega arith)

  placed_have : {b e : ℕ} {bs es : ℕ → ℕ} → a ≤ b → e ≤ z → Placed s R b e bs es → Have t.ends t.goes (member_count s) bs es
  placed_have {bs = bs} {es = es} l g h = let w = placed_within l g h in
      f.have bs es w (λ c m. (mask_met f.allowed f.formed.named w c m).1 (h.placing.met c m)) h.reads

  masked : (b e : ℕ) (bs es : ℕ → ℕ) → a ≤ b → e ≤ z → Placed s R b e bs es → Masked t b e bs es
  masked b e bs es l g h = record {
    inside = λ i m. h.placing.inside i (outer m);
    covers = λ m g u. let k = h.placing.covers m g u in (k.0, inner k.1, k.2, k.3);
    lawful = λ i m. record {
      reads = (placed_have l g h).ends i i (outer m) (outer m);
      met = λ c k q. subst (λ (j : ℕ). MetByMask s.conditions t.allow bs c (es j)) q
          ((mask_met f.allowed f.formed.named (placed_within l g h) c k).1 (h.placing.met c k));
    };
  }

  kept : (b e : ℕ) (bs es : ℕ → ℕ) → a ≤ b → e ≤ z → Placed s R b e bs es → InTables t a bs es
  kept b e bs es l g h = let p = placed_have l g h in record {
    ends = λ i j m k. p.ends i j (outer m) (outer k);
    goes = λ i j m k. p.goes i j (outer m) (outer k);
    later = λ i x m k j. let w = placed_within l g h i (outer m) in f.after i x (bs i) (es i) (outer m) k j (omega arith) (p.ends i i (outer m) (outer m));
  }

  pub tables : TablesOf s R a z t
  tables = record {
    count = f.count;
    ready = record {
      some = inner f.formed.some;
      named = λ c l. let m = f.formed.named c l in (inner m.0, inner m.1);
      forward = f.forward;
      moments = omega (arith, f.formed.moments, f.upto);
      onward = λ i x e l g m k. let o = f.own i x e (outer l) g m k in (o.1, o.2);
    };
    reads = reads;
    masked = masked;
    kept = kept;
    bounded = λ b e bs es l g h w j m k. f.bounded bs es (placed_within l g h) (placed_have l g h).ends w j (outer m) (outer k);
  }

-- the nodes of the member words
node_at : (ms : List ℕ) (i : ℕ) → get_or (map member_node ms) i 0 ≡ member_node (get_or ms i 0)
node_at ms i = get_or-map member_node ms i 0

counted : (ms : List ℕ) → length (map member_node ms) ≡ length ms
counted ms = length-map ms member_node

pub node_rows : (ms : List ℕ) {rows : ℕ} → ((i : ℕ) → i < length (map member_node ms) → get_or (map member_node ms) i 0 * 64 + 64 ≤ rows)
    → (i : ℕ) → i < length ms → member_node (get_or ms i 0) * 64 + 64 ≤ rows
node_rows ms h i l = omega (arith, node_at ms i, h i (omega (arith, counted ms)))

-- the tables as they are filled: E and G at the start, E₁ and G₁ once the conditions have cut them, E₂ with the own rows, and in t once the pairs
-- are cut
module _ (ms vs table : List ℕ) {E G E₁ G₁ E₂ : List ℕ} (n a z : ℕ) (t : Tables) (formed : Formed (task_set_of ms t.conditions.now vs n)) (forward : a ≤ z)
    (upto : z ≤ n) (unpruned_ends : Unpruned E) (unpruned_goes : Unpruned G) (allowed : Allowed (value_in vs) t.conditions.now n a z (length t.conditions.now) t.allow)
    (conditions : (count : ℕ) (bs es : ℕ → ℕ) → InSpan count a z bs es → count ≤ 4
    → ((c : ℕ) → c < length t.conditions.now → (condition_i (get_or t.conditions.now c 0) < count) × (condition_j (get_or t.conditions.now c 0) < count)
    × MetByMask t.conditions.now t.allow bs c (es (condition_i (get_or t.conditions.now c 0)))) → Have E G count bs es → Have E₁ G₁ count bs es)
    (own : OwnRows ms table G₁ a z E₁ E₂ (length ms))
    (pairs : LeftOut (length ms) a z E₂ G₁ t.ends t.goes) where
  have_all : (bs es : ℕ → ℕ) → InSpan (length ms) a z bs es → ((c : ℕ) → c < length t.conditions.now → MetByMask t.conditions.now t.allow bs c (es (condition_i (get_or t.conditions.now c 0))))
      → ((i : ℕ) → i < length ms → InTable table (member_node (get_or ms i 0)) (bs i) (es i)) → Have t.ends t.goes (length ms) bs es
  have_all bs es within met reads =
      let few : length ms ≤ 4 = omega (arith, formed.few, counted ms) in
      let small : z < 64 = omega (arith, formed.moments) in
      let start : Have E G (length ms) bs es = record {
        ends = λ i j g h. let o = within i g in let p = within j h in unpruned_ends ((i * 4 + j) * 64 + bs j) (es i) (omega arith) (omega arith);
        goes = λ i j g h. let o = within i g in let p = within j h in unpruned_goes ((i * 4 + j) * 64 + bs i) (bs j) (omega arith) (omega arith);
      } in
      let cut = conditions (length ms) bs es within few (λ c l. let m = formed.named c l in
      (omega (arith, counted ms), omega (arith, counted ms), met c l)) start in
      pairs.kept bs es within (record {
        ends = own.kept bs es within reads cut.goes cut.ends;
        goes = cut.goes;
      })

  pub filled : t.count ≡ length ms → ((i x y e : ℕ) → i < length ms → a ≤ x → x ≤ y → y ≤ z → In (pair_at t.ends i i y) e → In (get_or t.later (i * 64 + x) 0) e)
      → ((bs es : ℕ → ℕ) → InSpan (length ms) a z bs es → EndsHave (length ms) t.ends bs es → BoundsHave (length ms) t.bounds bs es)
      → TablesOf (task_set_of ms t.conditions.now vs n) (InTable table) a z t
  filled count after bounded = tables (task_set_of ms t.conditions.now vs n) (record {
    formed = formed;
    forward = forward;
    upto = upto;
    count = count ∙ sym (counted ms);
    allowed = allowed;
    own = λ i x e l g m k. subst (λ (m : ℕ). InTable table m x e × (x ≤ e) × (e ≤ z)) (sym (node_at ms i))
        (own.own i x e (omega (arith, counted ms)) g m (pairs.fewer ((i * 4 + i) * 64 + x) e k));
    have = λ bs es w met reads. rw (counted ms) (have_all bs es (λ i l. w i (omega (arith, counted ms))) met
        (λ i l. subst (λ (m : ℕ). InTable table m (bs i) (es i)) (node_at ms i) (reads i (omega (arith, counted ms)))));
    after = λ i x y e l. after i x y e (omega (arith, counted ms));
    bounded = rw (counted ms) bounded;
  })
