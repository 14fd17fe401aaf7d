-- A group, which is any test on actions with any limit: it is within its limit at each moment exactly when no word exceeds it with the words
-- before it; and so with one start more. Assumes nothing.
use mathlib.Core.Bool.{Bool, true, false, ◌&&◌}
use mathlib.Core.List.{List, [], ◌∷◌}
use mathlib.Core.Path.{◌≡◌, refl, ap, ◌∙◌}
use Prim.Native.Nat.{ℕ, zero, suc, ◌+◌, ◌≤◌, ◌<◌}
use native.Mathlib.Omega.{arith}
use borrow.Author.Tests.{ltb-true, ltb-false}
use lib.ListN.{length, get_or, take}
use lib.Seq.{get_or-take, length-take-le, take-length}
use Rattle.words.specs.Tests.{indicator}
use Rattle.words.specs.Fields.{start_moment, start_action}
use Rattle.words.specs.Lists.{Each, insert}
use Rattle.words.specs.Scan.{filter}
use Rattle.words.proofs.Choices.{is_false, both_true}
use Rattle.words.proofs.Lists.{each_of, each_at, each_map, pairs-at}
use Rattle.words.proofs.Filter.{each_filter, filter_none, filter-filter, count-cons, count-take, count_next, count-insert, count-le}
use Rattle.history.specs.Actions.{in_hand}
use Rattle.history.specs.Held.{held_at, Ascending}
use Rattle.history.proofs.Held.{in_hand-true, true_in_hand}
use Rattle.starts.specs.Rows.{in_use, exceeds}
use Rattle.starts.specs.Lawful.{Within, WithinExactly, ZeroForbids}

module _ (job : List ℕ) (group : ℕ → Bool) where
  -- start s uses it at moment t
  abbrev uses : ℕ → ℕ → Bool
  uses t s = in_hand job t s && group (start_action s)

  in_use_lem : (S : List ℕ) (t : ℕ) → in_use job group S t ≡ length (filter (uses t) S)
  in_use_lem S t = ap length (filter-filter (λ s. group (start_action s)) (in_hand job t) S)

  -- the first n starts use no more of it than all
  first_fewer : (S : List ℕ) (n t : ℕ) → in_use job group (take n S) t ≤ in_use job group S t
  first_fewer S n t = omega (arith, in_use_lem (take n S) t, in_use_lem S t, count-take (uses t) n S)

  -- the starts C are the starts S and one more, w
  pub record OneMore (w : ℕ) (S C : List ℕ) : Type 0 where
    pub adds : (t : ℕ) → in_use job group C t ≡ indicator (uses t w) + in_use job group S t

  pub one_in_front : (w : ℕ) (S : List ℕ) → OneMore w S (w ∷ S)
  one_in_front w S = record { adds = λ t. in_use_lem (w ∷ S) t ∙ rw (in_use_lem S t) (count-cons (uses t) w S) }

  pub one_inserted : (w : ℕ) (S : List ℕ) → OneMore w S (insert w S)
  one_inserted w S = record { adds = λ t. in_use_lem (insert w S) t ∙ rw (in_use_lem S t) (count-insert (uses t) w S) }

  pub one_taken : (S : List ℕ) (n : ℕ) → n < length S → OneMore (get_or S n 0) (take n S) (take (suc n) S)
  one_taken S n l = record { adds = λ t. in_use_lem (take (suc n) S) t ∙ rw (in_use_lem (take n S) t) (count_next (uses t) n S l) }

  -- a start in hand at t is so at each moment from its own to t
  used_before : (t u s : ℕ) → u ≤ t → start_moment s ≤ u → uses t s ≡ true → uses u s ≡ true
  used_before t u s l m e =
      let p = both_true (in_hand job t s) (group (start_action s)) e in
      rw (true_in_hand job u s m (omega (arith, (in_hand-true job t s p.0).1)), p.1)

  module _ (limit : ℕ) where
    -- starts within the limit exceed it with none of them, and fewer starts are within it too
    pub within-clear : (C : List ℕ) → Within job group limit C → (w : ℕ) → exceeds job group limit C w ≡ false
    within-clear C h w = is_false _ (λ e.
        let p = both_true (group (start_action w)) _ e in
        omega (arith, ltb-true limit (in_use job group C (start_moment w)) p.1, h (start_moment w)))

    pub within-fewer : {w : ℕ} {S C : List ℕ} → OneMore w S C → Within job group limit C → Within job group limit S
    within-fewer more h t = omega (arith, more.adds t, h t)

    -- one start more, which none of the others is later than: where it does not exceed the limit, they stay within it
    pub within_more : (w : ℕ) {S C : List ℕ} → OneMore w S C → Each (λ s. start_moment s ≤ start_moment w) S
        → Within job group limit S → exceeds job group limit C w ≡ false → Within job group limit C
    within_more w {S} {C} more past h clear t = cases (uses t w) refl
      where
        u : ℕ
        u = start_moment w

        cases : (b : Bool) → uses t w ≡ b → in_use job group C t ≤ limit
        cases false e = omega (arith, more.adds t, ap indicator e, h t)
        cases true e =
            let p = both_true (in_hand job t w) (group (start_action w)) e in
            let later = (in_hand-true job t w p.0).0 in
            let now = ltb-false limit (in_use job group C u) (rw p.1 at clear) in
            let others = count-le (uses t) (uses u) (each_map (λ s m. used_before t u s later m) past) in
            omega (
              arith,
              more.adds t,
              more.adds u,
              ap indicator e,
              ap indicator (used_before t u w later (omega arith) e),
              others,
              in_use_lem S t,
              in_use_lem S u,
            )

    -- the rows: each word with the words before it
    module _ (S : List ℕ) where
      abbrev Clear : Type 0
      Clear = (i : ℕ) → i < length S → exceeds job group limit (take (suc i) S) (get_or S i 0) ≡ false

      upto : Ascending S → Clear → (n : ℕ) → n ≤ length S → Within job group limit (take n S)
      upto ascends clear zero l = λ t. omega arith
      upto ascends clear (suc n) l =
          within_more (get_or S n 0) (one_taken S n (omega arith)) (each_of (take n S) past) (upto ascends clear n (omega arith)) (clear n (omega arith))
        where
          past : (i : ℕ) → i < length (take n S) → start_moment (get_or (take n S) i 0) ≤ start_moment (get_or S n 0)
          past i m =
              let size = length-take-le n S (omega arith) in
              rw (get_or-take n S i 0 (omega arith)) (pairs-at ascends n i (omega arith) (omega arith))

      pub rows_keep : Ascending S → Clear → Within job group limit S
      rows_keep ascends clear t = rw take-length at (upto ascends clear (length S) (omega arith) t)

      pub keeps_rows : Within job group limit S → Clear
      keeps_rows h i l = within-clear (take (suc i) S) first (get_or S i 0)
        where
          first : Within job group limit (take (suc i) S)
          first t = omega (arith, first_fewer S (suc i) t, h t)

    -- a start put in, counted with all
    pub start_keeps : (w : ℕ) (S : List ℕ) → Each (λ s. start_moment s ≤ start_moment w) S
        → Within job group limit S → exceeds job group limit (w ∷ S) w ≡ false → Within job group limit (insert w S)
    start_keeps w S past h clear = within_more w (one_inserted w S) past h (same ∙ clear)
      where
        same : exceeds job group limit (insert w S) w ≡ exceeds job group limit (w ∷ S) w
        same = rw ((one_inserted w S).adds (start_moment w), (one_in_front w S).adds (start_moment w))

    pub keeps_start : (w : ℕ) (S : List ℕ) → Within job group limit (insert w S) → exceeds job group limit (w ∷ S) w ≡ false
    keeps_start w S h = within-clear (w ∷ S) (λ t. omega (arith, (one_inserted w S).adds t, (one_in_front w S).adds t, h t)) w

pub within-exactly : WithinExactly
within-exactly job group limit starts ascends = (rows_keep job group limit starts ascends, keeps_rows job group limit starts)

pub zero_forbids : ZeroForbids
zero_forbids job group starts lasting = (λ h. each_of starts (λ i l. is_false _ (λ e. used h i l e)), λ none t. rw (unused none t) (omega arith))
  where
    used : Within job group 0 starts → (i : ℕ) → i < length starts → group (start_action (get_or starts i 0)) ≡ true → ⊥
    used h i l e =
        let s : ℕ = get_or starts i 0 in
        let u : ℕ = start_moment (get_or starts i 0) in
        let here : uses job group u s ≡ true = rw (true_in_hand job u s (omega arith) (omega (arith, each_at lasting i l)), e) in
        omega (arith, (one_taken job group starts i l).adds u, ap indicator here, first_fewer job group starts (suc i) u, h u)

    unused : Each (λ s. group (start_action s) ≡ false) starts → (t : ℕ) → filter (λ s. group (start_action s)) (held_at job starts t) ≡ []
    unused none t = filter_none (λ s. group (start_action s)) (each_filter (in_hand job t) none)
