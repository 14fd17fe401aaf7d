-- Rows 8 and 9 by the latest finish of each action: an earlier start of an action is still in hand where its latest one is. Assumes nothing.
use mathlib.Core.Bool.{Bool, true, false}
use mathlib.Core.List.{List}
use mathlib.Core.Path.{◌≡◌, refl, ap, sym, ◌∙◌}
use Prim.Native.Nat.{ℕ, ◌+◌, ◌^◌, ◌≤◌, ◌<◌}
use native.Mathlib.Decide.{dec_lt}
use native.Mathlib.Omega.{arith}
use borrow.Author.Tests.{eqb-true, eqb-false, ltb-true, ltb-false, lt-ltb, eq-eqb}
use lib.Dec.{eqb, ltb}
use lib.ListN.{length, get_or, set, replicate, length-set}
use lib.Seq.{get_or-set_same, get_or-set_other}
use Rattle.words.specs.Fields.{start_moment, start_action}
use Rattle.words.proofs.Choices.{is_false, both_true}
use Rattle.job.specs.Parts.{actions, duration}
use Rattle.history.specs.Actions.{finish}
use Rattle.starts.specs.Rows.{restarts, in_hand_already, together, clashing, clashes}
use Rattle.words.specs.Scan.{any_below}
use Rattle.starts.specs.Code.Latest.{Unfinished, Latest, clashes_after}
use Rattle.starts.specs.Code.Given.{Timed}
use Rattle.words.proofs.AnyBelow.{some_none, some_hit, some_same}
use Rattle.words.proofs.Entries.{entries_alike}
use Rattle.starts.proofs.Opposed.{together-later}
use Rattle.starts.proofs.StartsFormed.{right_word, finish-is, moments_ordered}

-- before the first start no entry is above 0
pub latest-start : (job starts : List ℕ) → Latest job starts 0 (replicate 64 0)
latest-start job starts =
    record { size = refl; covers = λ j l. absurd (omega arith); comes = λ a u l. absurd (omega (arith, entries_alike (λ v. v ≤ 0) 64 0 (omega arith) (omega arith) a)) }

-- of word i the code has read the action a; the table is that of the starts before it
module _ {job durations starts : List ℕ} (given : Timed job durations starts) (words : (i : ℕ) → get_or starts i 0 < 2 ^ 32)
    {i : ℕ} (l : i < length starts) {table : List ℕ} (latest : Latest job starts i table) {a : ℕ} (ea : a ≡ start_action (get_or starts i 0)) where
  abbrev s : ℕ
  s = get_or starts i 0

  earlier : {j : ℕ} → j < i → (start_moment (get_or starts j 0) ≤ start_moment s) × (start_action (get_or starts j 0) ≡ start_action s → start_moment (get_or starts j 0) < start_moment s)
  earlier m = moments_ordered given.words words m l

  -- with its finish v
  pub latest-more : {v : ℕ} → v ≡ start_moment (get_or starts i 0) + get_or durations (start_action (get_or starts i 0)) 0 → Latest job starts (i + 1) (set table a v)
  latest-more {v} ev = record {
    size = length-set table a v ∙ latest.size;
    covers = λ j m. covers j (eqb (start_action (get_or starts j 0)) a) refl (dec_lt j i) m;
    comes = λ b u m. comes b u (eqb b a) refl m;
  }
    where
      fits : a < length table
      fits = omega (arith, latest.size)

      ends : v ≡ finish job s
      ends = ev ∙ finish-is given.lasts given.words i l

      covers : (j : ℕ) (same : Bool) → eqb (start_action (get_or starts j 0)) a ≡ same → Dec (j < i) → j < i + 1
          → finish job (get_or starts j 0) ≤ get_or (set table a v) (start_action (get_or starts j 0)) 0
      covers j true t (yes m) k =
          let e : start_action (get_or starts j 0) ≡ a = eqb-true _ _ t in
          rw (e, get_or-set_same table a v 0 fits) (omega (arith, ends, (earlier m).0, ap (duration job) ea))
      covers j false t (yes m) k = rw (get_or-set_other table a (start_action (get_or starts j 0)) v 0 (eqb-false _ _ t)) (latest.covers j m)
      covers j same t (no m) k =
          let last : j ≡ i = omega arith in
          rw (last, ← ea, get_or-set_same table a v 0 fits) (omega (arith, ends, ap (duration job) ea))

      comes : (b u : ℕ) (same : Bool) → eqb b a ≡ same → u < get_or (set table a v) b 0 → Unfinished job starts (i + 1) b u
      comes b u true t m =
          let e : b ≡ a = eqb-true b a t in
          record { place = i; before = omega arith; action = sym (e ∙ ea); later = rw (e, get_or-set_same table a v 0 fits, ends) at m }
      comes b u false t m =
          let w = latest.comes b u (rw (get_or-set_other table a b v 0 (eqb-false b a t)) at m) in
          let k = w.before in
          record { place = w.place; before = omega arith; action = w.action; later = w.later }

  module _ {u : ℕ} (eu : u ≡ start_moment (get_or starts i 0)) where
    -- row 8: its action's latest start has not finished
    pub latest-restart : in_hand_already job starts i ≡ ltb u (get_or table a 0)
    unfolding in_hand_already
    latest-restart = rw (ea, eu) (cases (ltb (start_moment s) (get_or table (start_action s) 0)) refl)
      where
        test : ℕ → Bool
        test j = restarts job (get_or starts j 0) s

        hit : (w : Unfinished job starts i (start_action s) (start_moment s)) → test w.place ≡ true
        hit w = rw (eq-eqb _ _ w.action, lt-ltb _ _ ((earlier w.before).1 w.action), lt-ltb _ _ w.later)

        miss : get_or table (start_action s) 0 ≤ start_moment s → (j : ℕ) → j < i → test j ≡ true → ⊥
        miss h j m e =
            let a = both_true (eqb (start_action (get_or starts j 0)) (start_action s)) _ e in
            let b = both_true (ltb (start_moment (get_or starts j 0)) (start_moment s)) _ a.1 in
            let same : start_action (get_or starts j 0) ≡ start_action s = eqb-true _ _ a.0 in
            omega (arith, latest.covers j m, ap (λ (a : ℕ). get_or table a 0) same, ltb-true (start_moment s) (finish job (get_or starts j 0)) b.1)

        cases : (b : Bool) → ltb (start_moment s) (get_or table (start_action s) 0) ≡ b → any_below test i ≡ b
        cases true e =
            let w = latest.comes (start_action s) (start_moment s) (ltb-true _ _ e) in
            some_hit test i w.place w.before (hit w)
        cases false e = some_none test i (λ j m. is_false (test j) (miss (ltb-false _ _ e) j m))

    -- row 9: the latest start of some action that clashes has not finished
    pub latest-clash : clashes job starts i ≡ any_below (clashes_after job table a u) (actions job)
    unfolding clashes
    latest-clash = rw (ea, eu) (some_same test (clashes_after job table (start_action s) (start_moment s)) i (actions job) to from)
      where
        test : ℕ → Bool
        test j = clashing job (get_or starts j 0) s

        joint : (j : ℕ) → j < i → together job (get_or starts j 0) s ≡ ltb (start_moment s) (finish job (get_or starts j 0))
        joint j m =
            let r = right_word given.words i l in
            together-later job (get_or starts j 0) s (earlier m).0 (omega (arith, given.formed.lasting (start_action s) r.action)) r.moment

        to : (j : ℕ) → j < i → test j ≡ true → any_below (clashes_after job table (start_action s) (start_moment s)) (actions job) ≡ true
        to j m e =
            let p = both_true (together job (get_or starts j 0) s) _ e in
            let after = ltb-true (start_moment s) (finish job (get_or starts j 0)) (sym (joint j m) ∙ p.0) in
            some_hit (clashes_after job table (start_action s) (start_moment s)) (actions job) (start_action (get_or starts j 0)) (right_word given.words j (omega arith)).action
            (rw (lt-ltb (start_moment s) (get_or table (start_action (get_or starts j 0)) 0) (omega (arith, latest.covers j m)), p.1))

        from : (b : ℕ) → b < actions job → clashes_after job table (start_action s) (start_moment s) b ≡ true → any_below test i ≡ true
        from b m e =
            let p = both_true (ltb (start_moment s) (get_or table b 0)) _ e in
            let w = latest.comes b (start_moment s) (ltb-true (start_moment s) (get_or table b 0) p.0) in
            some_hit test i w.place w.before (rw (joint w.place w.before, lt-ltb _ _ w.later, w.action) p.1)
