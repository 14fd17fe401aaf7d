-- The groups of a job, one word of it after the other, and what their tables tell of a start. Assumes nothing.
use mathlib.Core.Bool.{Bool, true, false, cond, ◌&&◌, ◌||◌, or_comm}
use mathlib.Core.List.{List, [], ◌∷◌}
use mathlib.Core.Logic.{by_cases}
use mathlib.Core.Path.{◌≡◌, refl, ap, sym, ◌∙◌}
use Prim.Native.Nat.{ℕ, zero, suc, ◌+◌, ◌<◌, ◌≤◌}
use native.Mathlib.Decide.{ℕ_discrete, dec_lt}
use native.Mathlib.Omega.{arith}
use borrow.Author.Tests.{eqb-true, eq-eqb, ne_eqb, le-leb, lt-leb, le-ltb, lt-ltb}
use lib.Dec.{eqb, leb, ltb}
use lib.ListN.{length, get_or, take, drop, set, replicate, length-set}
use lib.Seq.{take-length, get_or-set_same, get_or-set_other}
use native.Mathlib.Numerals.{add-one}
use Rattle.std.specs.List.{list_any, list_all}
use Rattle.std.proofs.lemmas.List.Folds.{list_any_more}
use Rattle.bitset.specs.Code.Members.{has, IsSetOf}
use Rattle.bitset.proofs.Digits.{has-zero}
use Rattle.words.specs.Fields.{kind, start_moment, start_action, group_number, group_limit, group_action}
use Rattle.words.specs.Scan.{any, any_below, find_or}
use Rattle.words.proofs.Choices.{both_true}
use Rattle.words.proofs.AnyBelow.{some_none, some_cong}
use Rattle.words.proofs.Filter.{filter-agree}
use Rattle.words.proofs.Lists.{each_of}
use Rattle.words.proofs.Scan.{drop-next, gives_end, any-end}
use Rattle.job.specs.Parts.{is_group, lists_in, limit_of, in_group, duration}
use Rattle.history.specs.Held.{held_at}
use Rattle.history.proofs.Held.{true_in_hand}
use Rattle.starts.specs.Rows.{in_use, exceeds, over_limit}
use Rattle.starts.proofs.GroupLimits.{OneMore}
use Rattle.groups.specs.Code.GroupTable.{group_at, GroupTable, WordStored, held_of, is_full}
use Rattle.groups.specs.declared.Group.{Group}
use Rattle.groups.specs.declared.Groups.{Groups}

-- the table of the groups among the words ws of a job
pub record GroupsIn (ws : List ℕ) (all : List Group) : Type 0 where
  pub size : length all ≡ 8
  pub limit : (g : ℕ) → (group_at all g).limit ≡ find_or (is_group g) group_limit 0 ws
  pub member : (g a : ℕ) → has (group_at all g).members a ≡ any (lists_in g a) ws

abbrev pub none : Group
none = record { limit = 0; members = 0 }

none-all : (n g : ℕ) → get_or (replicate n none) g none ≡ none
none-all zero g = refl
none-all (suc n) zero = refl
none-all (suc n) (suc g) = none-all n g

module _ (job : List ℕ) where
  pub groups_none : GroupsIn (drop (length job) job) (replicate 8 none)
  groups_none = record {
    size = refl;
    limit = λ g. rw (gives_end job (length job) (is_group g) group_limit 0 (omega arith), none-all 8 g);
    member = λ g a. rw (none-all 8 g, has-zero a, any-end job (length job) (lists_in g a) (omega arith));
  }

  -- one word more in front
  pub groups_more : (i j : ℕ) {all new : List Group} → GroupsIn (drop j job) all → j ≡ i + 1 → i < length job → WordStored (get_or job i 0) all new → GroupsIn (drop i job) new
  unfolding find_or
  groups_more i j h next l stored = record {
    size = stored.size ∙ h.size;
    limit = λ g. stored.limit g ∙ rw (drop-next job i l, ← next, h.limit g);
    member = λ g a. stored.members g a ∙ rw (drop-next job i l, ← next, h.member g a);
  }

-- of all words of the job
pub groups_all : {job : List ℕ} {all : List Group} → GroupsIn job all → GroupTable job (record { all = all })
unfolding limit_of in_group
groups_all h = record { size = h.size; limit = λ g l. h.limit g; members = λ g l a. h.member g a }

-- what a word stores: it is of another kind; or it declares group x, or lists action b in it
module _ (w : ℕ) (table : List Group) where
  pub word_other : (kind w ≡ 13 → ⊥) → (kind w ≡ 14 → ⊥) → WordStored w table table
  word_other n m = record { size = refl; limit = λ g. rw (ne_eqb (kind w) 13 n); members = λ g a. rw (ne_eqb (kind w) 14 m) }

  pub limit_here : {x v : ℕ} → kind w ≡ 13 → x ≡ group_number w → v ≡ group_limit w → x < length table
      → WordStored w table (set table x (record { limit = v; members = (group_at table x).members }))
  limit_here {x} {v} k ex ev l = record {
    size = length-set table x _;
    limit = λ g. rw (eq-eqb (kind w) 13 k, ← ex, ← ev) (cases g (ℕ_discrete g x));
    members = λ g a. rw k (same g a (ℕ_discrete g x));
  }
    where
      new : Group
      new = record { limit = v; members = (group_at table x).members }

      cases : (g : ℕ) → Dec (g ≡ x) → (group_at (set table x new) g).limit ≡ cond (eqb g x) v (group_at table g).limit
      cases g (yes e) = rw (e, eq-eqb x x refl, get_or-set_same table x new none l)
      cases g (no n) = rw (ne_eqb g x n, get_or-set_other table x g new none n)

      same : (g a : ℕ) → Dec (g ≡ x) → has (group_at (set table x new) g).members a ≡ has (group_at table g).members a
      same g a (yes e) = rw (e, get_or-set_same table x new none l)
      same g a (no n) = rw (get_or-set_other table x g new none n)

  pub member-here : {x b : ℕ} (one sum : ℕ) → kind w ≡ 14 → x ≡ group_number w → b ≡ group_action w → x < length table
      → IsSetOf one (λ a. eqb a b) → IsSetOf sum (λ a. has (group_at table x).members a || has one a)
      → WordStored w table (set table x (record { limit = (group_at table x).limit; members = sum }))
  member-here {x} {b} one sum k ex eb l is_one is_sum = record {
    size = length-set table x _;
    limit = λ g. rw k (same g (ℕ_discrete g x));
    members = λ g a. rw (eq-eqb (kind w) 14 k, ← ex, ← eb) (cases g a (ℕ_discrete g x));
  }
    where
      new : Group
      new = record { limit = (group_at table x).limit; members = sum }

      same : (g : ℕ) → Dec (g ≡ x) → (group_at (set table x new) g).limit ≡ (group_at table g).limit
      same g (yes e) = rw (e, get_or-set_same table x new none l)
      same g (no n) = rw (get_or-set_other table x g new none n)

      cases : (g a : ℕ) → Dec (g ≡ x) → has (group_at (set table x new) g).members a ≡ ((eqb g x && eqb a b) || has (group_at table g).members a)
      cases g a (yes e) = rw (e, eq-eqb x x refl, get_or-set_same table x new none l, is_sum a, is_one a) (or_comm (has (group_at table x).members a) (eqb a b))
      cases g a (no n) = rw (ne_eqb g x n, get_or-set_other table x g new none n)

-- a test of some group, or of every one, by their numbers
any-groups : (test : Group → Bool) (all : List Group) (n : ℕ) → n ≤ length all → list_any test (take n all) ≡ any_below (λ g. test (group_at all g)) n
unfolding any_below
any-groups test all zero l = refl
any-groups test all (suc n) l = rw (← (add-one n), list_any_more test all n none (omega arith), any-groups test all n (omega arith))

any-all : (test : Group → Bool) (all : List Group) (n : ℕ) → length all ≡ n → list_any test all ≡ any_below (λ g. test (group_at all g)) n
any-all test all n e =
    let whole : take n all ≡ all = rw (← e) (take-length all) in
    ap (λ (l : List Group). list_any test l) (sym whole) ∙ any-groups test all n (omega arith)

every-group : (test : Group → Bool) (all : List Group) (g : ℕ) → list_all test all ≡ true → test none ≡ true → test (group_at all g) ≡ true
every-group test [] g e z = z
every-group test (x ∷ xs) zero e z = (both_true (test x) (list_all test xs) e).0
every-group test (x ∷ xs) (suc g) e z = every-group test xs g (both_true (test x) (list_all test xs) e).1 z

-- a start s beside the starts S in hand at its moment: a group has no room for it exactly where it exceeds the limit with them
module _ {job : List ℕ} {groups : Groups} (table : GroupTable job groups) where
  full_read : (g : ℕ) → g < 8 → (s : ℕ) → 0 < duration job (start_action s) → {S C : List ℕ} → OneMore job (in_group job g) s S C
      → is_full (held_at job S (start_moment s)) (start_action s) (group_at groups.all g)
      ≡ exceeds job (in_group job g) (limit_of job g) C s
  full_read g l s lasts {S} {C} more =
      rw (table.limit g l, table.members g l (start_action s), of_group)
      (cases (in_group job g (start_action s)) refl)
    where
      u : ℕ
      u = start_moment s

      of_group : held_of ((group_at groups.all g).members) (held_at job S u) ≡ in_use job (in_group job g) S u
      of_group =
          ap length
          (filter-agree (λ v. has ((group_at groups.all g).members) (start_action v)) (λ v. in_group job g (start_action v))
          (each_of (held_at job S u) (λ i m. table.members g l (start_action (get_or (held_at job S u) i 0)))))

      one_above : (x : ℕ) → leb (limit_of job g) x ≡ ltb (limit_of job g) (1 + x)
      one_above x =
          by_cases (dec_lt x (limit_of job g))
          (λ m. rw (lt-leb (limit_of job g) x m, le-ltb (limit_of job g) (1 + x) (omega arith)))
          (λ m. rw (le-leb (limit_of job g) x (omega arith), lt-ltb (limit_of job g) (1 + x) (omega arith)))

      cases : (b : Bool) → in_group job g (start_action s) ≡ b
          → (b && leb (limit_of job g) (in_use job (in_group job g) S u)) ≡ (b && ltb (limit_of job g) (in_use job (in_group job g) C u))
      cases false e = refl
      cases true e =
          rw (more.adds u, true_in_hand job u s (omega arith) (omega arith), e) (one_above (in_use job (in_group job g) S u))

  pub some_read : (s : ℕ) → 0 < duration job (start_action s) → {S C : List ℕ} → ((group : ℕ → Bool) → OneMore job group s S C)
      → {held : List ℕ} → held ≡ held_at job S (start_moment s) → {a : ℕ} → a ≡ start_action s
      → list_any (is_full held a) groups.all ≡ over_limit job C s
  unfolding over_limit
  some_read s lasts more eh ea =
      any-all _ groups.all 8 table.size ∙ some_cong _ _ 8 (λ g l. rw (eh, ea) (full_read g l s lasts (more (in_group job g))))

  -- where no group has an action, none is over its limit
  pub empty_clear : list_all (λ g. eqb g.members 0) groups.all ≡ true → (C : List ℕ) (s : ℕ) → over_limit job C s ≡ false
  unfolding over_limit
  empty_clear e C s = some_none _ 8 (λ g l. rw (none g l))
    where
      none : (g : ℕ) → g < 8 → in_group job g (start_action s) ≡ false
      none g l =
          let z : (group_at groups.all g).members ≡ 0 = eqb-true _ 0 (every-group (λ g. eqb g.members 0) groups.all g e refl) in
          sym (table.members g l (start_action s)) ∙ rw z (has-zero (start_action s))
