-- The table of the pairs of actions that clash: how it grows with the actions that have starts, and what it tells. Assumes nothing.
use mathlib.Core.Bool.{Bool, true, false, ◌&&◌, ◌||◌}
use mathlib.Core.List.{List}
use mathlib.Core.Logic.{by_cases}
use mathlib.Core.Path.{◌≡◌, refl, ap, sym, ◌∙◌}
use Prim.Native.Nat.{ℕ, ◌+◌, ◌*◌, ◌≤◌, ◌<◌}
use native.Mathlib.Decide.{ℕ_discrete}
use native.Mathlib.Omega.{arith}
use borrow.Author.Tests.{ltb-true}
use lib.Dec.{eqb, ltb}
use lib.ListN.{length, get_or, set, replicate, length-set, length-replicate}
use lib.Seq.{get_or-set_same, get_or-set_other}
use Rattle.std.specs.List.{range_with_len}
use Rattle.words.specs.Tests.{indicator}
use Rattle.words.specs.Scan.{any, any_below}
use Rattle.words.proofs.AnyBelow.{some_cong, any-range}
use Rattle.words.proofs.Entries.{entry_set, entries_alike}
use Rattle.job.specs.Parts.{fluents, actions}
use Rattle.job.specs.Code.WellFormed.{WellFormed}
use Rattle.starts.specs.Rows.{opposed, clash}
use Rattle.starts.specs.Code.Latest.{Told, PairStored, Clashes, ClashesWith, clashes_after}
use Rattle.starts.specs.Code.Given.{Paired, PairStorable, Compared}
use Rattle.starts.proofs.Opposed.{clash-swap, clash-self}

-- two actions are opposed on a fluent where their effects in the table are
pub opposed-read : {job effects : List ℕ} {a b : ℕ} → Paired job effects a b → (f : ℕ) → f < fluents job
    → let x = get_or effects (a * 256 + f) 0 in let y = get_or effects (b * 256 + f) 0 in
    opposed job a b f ≡ ((eqb x 2 && eqb y 0) || (eqb x 0 && eqb y 2))
opposed-read {a} {b} given f l = rw (given.makes.entry a f given.first l, given.makes.entry b f given.second l)

-- an entry tells whether an action that is in hand after moment u clashes
pub clash_read : {job latest table : List ℕ} {b : ℕ} → Compared job latest table b → (u a : ℕ) → a < actions job
    → clashes_after job latest b u a ≡ (ltb u (get_or latest a 0) && eqb (get_or table (b * 64 + a) 0) 1)
clash_read {job} {latest} {table} {b} given u a l = cases (ltb u (get_or latest a 0)) refl
  where
    is_one : (t : Bool) → eqb (indicator t) 1 ≡ t
    is_one true = refl
    is_one false = refl

    cases : (t : Bool) → ltb u (get_or latest a 0) ≡ t → (t && clash job a b) ≡ (t && eqb (get_or table (b * 64 + a) 0) 1)
    cases false e = refl
    cases true e =
        let finish = ltb-true u (get_or latest a 0) e in
        clash-swap job a b ∙ rw (given.told a l (omega arith)) (sym (is_one (clash job b a)))

-- so does a search of all actions
pub clash_sought : {job latest table : List ℕ} {b : ℕ} → Compared job latest table b → (u : ℕ)
    → any (λ a. ltb u (get_or latest a 0) && eqb (get_or table (b * 64 + a) 0) 1) (range_with_len 0 (actions job)) ≡ any_below (clashes_after job latest b u) (actions job)
clash_sought {job} {latest} {table} {b} given u =
    any-range _ (actions job) ∙ some_cong _ _ (actions job) (λ a l. sym (clash_read given u a l))

-- a store of what is so
module _ {job : List ℕ} (formed : WellFormed job) {a b v : ℕ} (ha : a < actions job) (hb : b < actions job) (ev : v ≡ indicator (clash job a b))
    (table : List ℕ) (size : length table ≡ 4096) where
  room : a * 64 + b < length table
  room = omega (arith, size, formed.few_actions)

  told_here : Told job (set table (a * 64 + b) v) a b
  told_here = get_or-set_same table (a * 64 + b) v 0 room ∙ ev

  told_still : (x y : ℕ) → x < actions job → y < actions job → Told job table x y → Told job (set table (a * 64 + b) v) x y
  told_still x y hx hy old = entry_set (λ w. w ≡ indicator (clash job x y)) table (a * 64 + b) v room same (λ n. old)
    where
      same : x * 64 + y ≡ a * 64 + b → v ≡ indicator (clash job x y)
      same q =
          let few = formed.few_actions in
          let ex : x ≡ a = omega arith in
          let ey : y ≡ b = omega arith in
          rw (ex, ey) ev

-- both stores of a pair
pub pair_stored : {job effects : List ℕ} {a b : ℕ} {table : List ℕ} → PairStorable job effects a b table → {v : ℕ} → v ≡ indicator (clash job a b)
    → PairStored job a b table (set (set table (a * 64 + b) v) (b * 64 + a) v)
pair_stored {job} {a} {b} {table} given {v} ev = record {
  size = length-set first (b * 64 + a) v ∙ length-set table (a * 64 + b) v;
  forth = told_still formed hb ha turned first sized a b ha hb (told_here formed ha hb ev table given.size);
  back = told_here formed hb ha turned first sized;
  kept = λ x y hx hy old. told_still formed hb ha turned first sized x y hx hy (told_still formed ha hb ev table given.size x y hx hy old);
}
  where
    formed : WellFormed job
    formed = given.two.formed

    ha : a < actions job
    ha = given.two.first

    hb : b < actions job
    hb = given.two.second

    first : List ℕ
    first = set table (a * 64 + b) v

    sized : length first ≡ 4096
    sized = length-set table (a * 64 + b) v ∙ given.size

    turned : v ≡ indicator (clash job b a)
    turned = ev ∙ ap indicator (clash-swap job a b)

-- before the first start the table tells of each action with itself alone
pub clashes-start : (job : List ℕ) → Clashes job (replicate 64 0) (replicate 4096 0)
clashes-start job = record {
  size = length-replicate {A = ℕ} 4096 0;
  pair = λ a b la lb pa pb. absurd (omega (arith, entries_alike (λ v. v ≤ 0) 64 0 (omega arith) (omega arith) a));
  self = λ a l. rw (clash-self job a) (entries_alike (λ v. v ≡ 0) 4096 0 refl refl (a * 64 + a));
}

-- comparing an action: the actions below b that have a latest finish are stored with it
pub record Comparing (job latest : List ℕ) (a b : ℕ) (table : List ℕ) : Type 0 where
  pub others : Clashes job latest table
  pub forth : (k : ℕ) → k < b → k < actions job → 0 < get_or latest k 0 → Told job table a k
  pub back : (k : ℕ) → k < b → k < actions job → 0 < get_or latest k 0 → Told job table k a

module _ {job latest : List ℕ} {a : ℕ} (ha : a < actions job) where
  pub comparing_start : {table : List ℕ} → Clashes job latest table → Comparing job latest a 0 table
  comparing_start told = record { others = told; forth = λ k l. absurd (omega arith); back = λ k l. absurd (omega arith) }

  -- action b has a latest finish and is stored; it has none
  module _ {b : ℕ} {table : List ℕ} (so : Comparing job latest a b table) where
    pub comparing_stored : {new : List ℕ} → PairStored job a b table new → Comparing job latest a (b + 1) new
    comparing_stored {new} stored = record {
      others = record {
        size = stored.size ∙ so.others.size;
        pair = λ x y hx hy lx ly. stored.kept x y hx hy (so.others.pair x y hx hy lx ly);
        self = λ x hx. stored.kept x x hx hx (so.others.self x hx);
      };
      forth = λ k l hk lk. by_cases (ℕ_discrete k b) (λ q. rw q stored.forth) (λ n. stored.kept a k ha hk (so.forth k (omega arith) hk lk));
      back = λ k l hk lk. by_cases (ℕ_discrete k b) (λ q. rw q stored.back) (λ n. stored.kept k a hk ha (so.back k (omega arith) hk lk));
    }

    pub comparing_skipped : get_or latest b 0 ≤ 0 → Comparing job latest a (b + 1) table
    comparing_skipped none = record {
      others = so.others;
      forth = λ k l hk lk. so.forth k (before k l lk) hk lk;
      back = λ k l hk lk. so.back k (before k l lk) hk lk;
    }
      where
        before : (k : ℕ) → k < b + 1 → 0 < get_or latest k 0 → k < b
        before k l lk = by_cases (ℕ_discrete k b) (λ q. absurd (omega (arith, ap (λ (i : ℕ). get_or latest i 0) q))) (λ n. omega arith)

  pub comparing_all : {b : ℕ} {table : List ℕ} → actions job ≤ b → Comparing job latest a b table → ClashesWith job latest a table
  comparing_all all so = record {
    others = so.others;
    forth = λ k hk lk. so.forth k (omega arith) hk lk;
    back = λ k hk lk. so.back k (omega arith) hk lk;
  }

  -- action a has a latest finish itself
  pub compared_before : {table : List ℕ} → 0 < get_or latest a 0 → Clashes job latest table → ClashesWith job latest a table
  compared_before la told = record {
    others = told;
    forth = λ b hb lb. told.pair a b ha hb la lb;
    back = λ b hb lb. told.pair b a hb ha lb la;
  }

  -- then it may get one
  pub clashes-more : {table : List ℕ} (v : ℕ) → ClashesWith job latest a table → Clashes job (set latest a v) table
  clashes-more {table} v so = record { size = so.others.size; pair = pair; self = so.others.self }
    where
      old : (x : ℕ) → (x ≡ a → ⊥) → 0 < get_or (set latest a v) x 0 → 0 < get_or latest x 0
      old x n l = rw (get_or-set_other latest a x v 0 n) at l

      pair : (x y : ℕ) → x < actions job → y < actions job → 0 < get_or (set latest a v) x 0 → 0 < get_or (set latest a v) y 0 → Told job table x y
      pair x y hx hy lx ly =
          by_cases (ℕ_discrete x a)
          (λ p. by_cases (ℕ_discrete y a) (λ q. rw (p, q) (so.others.self a ha)) (λ m. rw p (so.forth y hy (old y m ly))))
          (λ n. by_cases (ℕ_discrete y a) (λ q. rw q (so.back x hx (old x n lx))) (λ m. so.others.pair x y hx hy (old x n lx) (old y m ly)))
