-- The starts in hand, carried from one moment to the next: a step of the state sees them alone, and with the starts of the new moment they
-- give the next such set. Assumes nothing.
use mathlib.Core.Bool.{Bool, true, false, cond, ◌&&◌}
use mathlib.Core.List.{List, ◌∷◌, ◌++◌}
use mathlib.Core.Logic.{by_cases}
use mathlib.Core.Path.{◌≡◌, refl, ◌∙◌}
use Prim.Native.Nat.{ℕ, suc, ◌<◌, ◌≤◌}
use native.Mathlib.Decide.{dec_lt, ℕ_discrete}
use native.Mathlib.Omega.{arith}
use borrow.Author.Tests.{eqb-true, ltb-true, leb-true, le-leb, lt-leb, lt-ltb, le-ltb, eq-eqb, ne_eqb}
use lib.Dec.{leb, ltb}
use Rattle.words.specs.Fields.{unknown, start_moment, start_action}
use Rattle.words.specs.Lists.{Each, each_none, each_more, pairs-none, pairs-more}
use Rattle.words.specs.Scan.{any, find_or, filter}
use Rattle.words.proofs.Choices.{both_true, same_test}
use Rattle.words.proofs.Lists.{each_map}
use Rattle.words.proofs.Scan.{any-agree, find_or-agree}
use Rattle.words.proofs.Filter.{any-filter, find_or-filter, filter-filter, filter-agree, filter_none, mem_filter}
use Rattle.job.specs.Parts.{duration}
use Rattle.history.specs.Actions.{finish, in_hand, hides, finishes, affects}
use Rattle.history.specs.Values.{hides_fluent, gives_fluent, given_value, next_value}
use Rattle.history.specs.Held.{held_at, begins_at, starting_at, unfinished, Lasting, Ascending, HeldExactly, HeldStart, HeldNext}

-- in hand is u ≤ t < u + d
module _ (job : List ℕ) (t s : ℕ) where
  pub in_hand-true : in_hand job t s ≡ true → (start_moment s ≤ t) × (t < finish job s)
  in_hand-true e =
      let b = both_true (leb (start_moment s) t) (ltb t (finish job s)) e in
      (leb-true (start_moment s) t b.0, ltb-true t (finish job s) b.1)

  pub true_in_hand : start_moment s ≤ t → t < finish job s → in_hand job t s ≡ true
  true_in_hand l m = rw (le-leb (start_moment s) t l, lt-ltb t (finish job s) m)

pub held_exactly : HeldExactly
held_exactly job starts t s =
    let m = mem_filter (in_hand job t) s starts in
    (λ h. let r = m.0 h in (r.0, in_hand-true job t s r.1), λ h. m.1 (h.0, true_in_hand job t s h.1.0 h.1.1))

module _ (job : List ℕ) (t f : ℕ) where
  -- what hides at the next moment is in hand now and does not finish then
  hides-held : (s : ℕ) → (in_hand job t s && (unfinished job (suc t) s && affects job f s)) ≡ hides_fluent job (suc t) f s
  hides-held s = same_test (in_hand job t s && (unfinished job (suc t) s && affects job f s)) (hides_fluent job (suc t) f s) to from
    where
      to : (in_hand job t s && (unfinished job (suc t) s && affects job f s)) ≡ true → hides_fluent job (suc t) f s ≡ true
      to e =
          let a = both_true (in_hand job t s) (unfinished job (suc t) s && affects job f s) e in
          let b = both_true (unfinished job (suc t) s) (affects job f s) a.1 in
          rw (lt-ltb (start_moment s) (suc t) (omega (arith, (in_hand-true job t s a.0).0)), b.0, b.1)

      from : hides_fluent job (suc t) f s ≡ true → (in_hand job t s && (unfinished job (suc t) s && affects job f s)) ≡ true
      from e =
          let a = both_true (hides job (suc t) s) (affects job f s) e in
          let b = both_true (ltb (start_moment s) (suc t)) (unfinished job (suc t) s) a.0 in
          let l = ltb-true (start_moment s) (suc t) b.0 in
          let m = ltb-true (suc t) (finish job s) b.1 in
          rw (true_in_hand job t s (omega arith) (omega arith), b.1, a.1)

  -- what finishes then is in hand now
  gives_held : (s : ℕ) → 0 < duration job (start_action s) → (in_hand job t s && gives_fluent job (suc t) f s) ≡ gives_fluent job (suc t) f s
  gives_held s lasts =
      same_test (in_hand job t s && gives_fluent job (suc t) f s) (gives_fluent job (suc t) f s) (λ e. (both_true (in_hand job t s) (gives_fluent job (suc t) f s) e).1)
      (λ e. rw (here (eqb-true _ _ (both_true (finishes job (suc t) s) (affects job f s) e).0), e))
    where
      here : finish job s ≡ suc t → in_hand job t s ≡ true
      here l = true_in_hand job t s (omega arith) (omega arith)

  -- so a step of the state sees the starts in hand alone: those that finish give, the others hide
  pub next_held : (old : ℕ) {S : List ℕ} → Lasting job S
      → cond (any (affects job f) (filter (unfinished job (suc t)) (held_at job S t))) unknown (find_or (gives_fluent job (suc t) f) (given_value job f) old (held_at job S t))
      ≡ next_value job S (suc t) f old
  unfolding next_value
  next_held old {S} lasting =
      rw (
        any-filter (affects job f) (unfinished job (suc t)) (held_at job S t),
        any-filter (λ s. unfinished job (suc t) s && affects job f s) (in_hand job t) S,
        any-agree _ _ (each_map (λ s l. hides-held s) lasting),
        find_or-filter (gives_fluent job (suc t) f) (in_hand job t) (given_value job f) old S,
        find_or-agree _ _ (given_value job f) old (each_map gives_held lasting),
      )

-- the set at moment 0: the starts that begin then
pub held_start : HeldStart
held_start job starts lasting = filter-agree (in_hand job 0) (begins_at 0) (each_map begins lasting)
  where
    begins : (s : ℕ) → 0 < duration job (start_action s) → in_hand job 0 s ≡ begins_at 0 s
    begins s l =
        by_cases (ℕ_discrete (start_moment s) 0)
        (λ e. rw (eq-eqb (start_moment s) 0 e) (true_in_hand job 0 s (omega arith) (omega arith)))
        (λ n. rw (ne_eqb (start_moment s) 0 n, lt-leb (start_moment s) 0 (positive n)))
      where
        positive : (start_moment s ≡ 0 → ⊥) → 0 < start_moment s
        positive n = by_cases (dec_lt 0 (start_moment s)) (λ l. l) (λ l. absurd (n (omega arith)))

-- the set at the next moment: of those in hand the ones that have not finished, and then the starts that begin then
next_list : (job : List ℕ) (t : ℕ) {S : List ℕ} → Lasting job S → Ascending S
    → held_at job S (suc t) ≡ filter (unfinished job (suc t)) (held_at job S t) ++ starting_at S (suc t)
next_list job t each_none pairs-none = refl
next_list job t (each_more {s} {ss = S} lasts ls) (pairs-more p ps) = cases (dec_lt (suc t) (start_moment s)) (dec_lt (start_moment s) (suc t)) (next_list job t ls ps)
  where
    cases : Dec (suc t < start_moment s) → Dec (start_moment s < suc t) → held_at job S (suc t) ≡ filter (unfinished job (suc t)) (held_at job S t) ++ starting_at S (suc t)
        → cond (in_hand job (suc t) s) (s ∷ held_at job S (suc t)) (held_at job S (suc t))
        ≡ filter (unfinished job (suc t)) (cond (in_hand job t s) (s ∷ held_at job S t) (held_at job S t))
        ++ cond (begins_at (suc t) s) (s ∷ starting_at S (suc t)) (starting_at S (suc t))
    -- it starts later
    cases (yes l) m ih =
        rw (lt-leb (start_moment s) (suc t) l, lt-leb (start_moment s) t (omega arith), ne_eqb (start_moment s) (suc t) (λ z. omega arith)) ih
    -- it started before
    cases (no l) (yes m) ih =
        rw (le-leb (start_moment s) (suc t) (omega arith), le-leb (start_moment s) t (omega arith), ne_eqb (start_moment s) (suc t) (λ z. omega arith))
        (early (ltb (suc t) (finish job s)) refl (dec_lt t (finish job s)))
      where
        early : (b : Bool) → ltb (suc t) (finish job s) ≡ b → Dec (t < finish job s)
            → cond b (s ∷ held_at job S (suc t)) (held_at job S (suc t))
            ≡ filter (unfinished job (suc t)) (cond (ltb t (finish job s)) (s ∷ held_at job S t) (held_at job S t)) ++ starting_at S (suc t)
        early true e d =
            let n = ltb-true (suc t) (finish job s) e in
            rw (lt-ltb t (finish job s) (omega arith), e, ih)
        early false e (yes d) = rw (lt-ltb t (finish job s) d, e, ih)
        early false e (no d) = rw (le-ltb t (finish job s) (omega arith), ih)
    -- it starts now, and no word after it earlier
    cases (no l) (no m) ih =
        let same : start_moment s ≡ suc t = omega arith in
        rw (
          true_in_hand job (suc t) s (omega arith) (omega arith),
          lt-leb (start_moment s) t (omega arith),
          eq-eqb (start_moment s) (suc t) same,
          ih,
          filter_none (in_hand job t) (each_map (λ v h. rw (lt-leb (start_moment v) t (omega arith))) p),
        )

pub held_next : HeldNext
held_next job starts t lasting ascends = next_list job t lasting ascends

-- at a later moment, of starts that have begun: those in hand that have not finished then
pub held_later : (job : List ℕ) {t u : ℕ} → t ≤ u → {S : List ℕ} → Each (λ s. start_moment s ≤ t) S
    → filter (unfinished job u) (held_at job S t) ≡ held_at job S u
held_later job {t} {u} l {S} past =
    filter-filter (unfinished job u) (in_hand job t) S ∙ filter-agree (λ s. in_hand job t s && unfinished job u s) (in_hand job u) (each_map same past)
  where
    same : (s : ℕ) → start_moment s ≤ t → (in_hand job t s && unfinished job u s) ≡ in_hand job u s
    same s m = same_test (in_hand job t s && unfinished job u s) (in_hand job u s) to from
      where
        to : (in_hand job t s && unfinished job u s) ≡ true → in_hand job u s ≡ true
        to e = rw (le-leb (start_moment s) u (omega arith)) (both_true (in_hand job t s) (unfinished job u s) e).1

        from : in_hand job u s ≡ true → (in_hand job t s && unfinished job u s) ≡ true
        from e =
            let h = in_hand-true job u s e in
            rw (true_in_hand job t s m (omega arith), lt-ltb u (finish job s) h.1)
