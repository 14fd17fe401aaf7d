-- Every trial that passes is given by some moves from a fresh one: back over its moments and its starts, the last word first. Assumes nothing.
use mathlib.Core.Bool.{true, false, cond}
use mathlib.Core.List.{List, [], ◌∷◌, ◌++◌}
use mathlib.Core.Path.{◌≡◌, refl, sym, ◌∙◌}
use Prim.Native.Nat.{ℕ, zero, suc, ◌+◌, ◌^◌, ◌<◌, ◌≤◌}
use native.Mathlib.Decide.{dec_lt}
use native.Mathlib.Numerals.{add-one}
use native.Mathlib.Omega.{arith}
use borrow.Author.Tests.{lt-leb, eq-eqb}
use lib.Dec.{eqb}
use lib.ListN.{length, length-append}
use Rattle.words.specs.Fields.{start_moment, start_action, start_word}
use Rattle.words.specs.Lists.{Each, each_none, Pairs, insert}
use Rattle.words.proofs.Lists.{each_map, each_with, Last, no_last, the_last, last_of, each_init, each_last, pairs-init}
use Rattle.words.proofs.Insert.{insert-last}
use Rattle.job.specs.Parts.{last_moment, limit_of, in_group}
use Rattle.job.specs.Refusal.{job_refusal}
use Rattle.job.specs.Code.WellFormed.{WellFormed}
use Rattle.job.proofs.WellFormed.{well_formed}
use Rattle.history.specs.Actions.{finish}
use Rattle.starts.specs.Rows.{is_start, restarts, clashing, may_start, unmet_at, starts_refusal}
use Rattle.starts.specs.Lawful.{Lawful}
use Rattle.starts.proofs.Needs.{unmet-before}
use Rattle.starts.proofs.GroupLimits.{one_inserted, within-fewer}
use Rattle.starts.proofs.Lawful.{lawful}
use Rattle.starts.proofs.StartsFormed.{Right, right_of, word_is, ordered}
use Rattle.moves.specs.Trials.{Trial, Move, Start, On, fresh, trial_refusal, start_refusal, on_refusal, own_refusal, move_refusal, moved, after, played}
use Rattle.moves.specs.Promises.{GivenBy, GivenExactly}
use Rattle.moves.proofs.Passing.{Passing, passing, passes}
use Rattle.moves.proofs.Agree.{agrees}
use Rattle.moves.proofs.Played.{played-passing}

-- starts below a start w: none is later
in_order : {job : List ℕ} {w : ℕ} → Right job w → w < 2 ^ 32 → {S : List ℕ} → Each (λ s. is_start job s ≡ true) S → Each (λ s. s < 2 ^ 32) S → Each (λ s. s < w) S
    → Each (λ s. start_moment s ≤ start_moment w) S
in_order {job} {w} right small {S} words smalls below =
    let one : Each (λ s. s < w → start_moment s ≤ start_moment w) S =
    each_with (λ s e k l. (ordered (word_is (right_of {job = job} e) k) (word_is right small) l).0) words smalls in
    each_with (λ s f l. f l) one below

module _ (job : List ℕ) (good : (job_refusal job).number ≡ 0) where
  formed : WellFormed job
  formed = well_formed job good

  reach_more : (T : Trial) (m : Move) → Passing job T → (own_refusal job T m).number ≡ 0 → GivenBy job T → GivenBy job (moved T m)
  unfolding played after move_refusal
  reach_more T m h e r = record { moves = m ∷ r.moves; gives = rw r.gives same }
    where
      none : (move_refusal job T m).number ≡ 0
      none = rw (eq-eqb (job_refusal job).number 0 good, eq-eqb (trial_refusal job T).number 0 (passes job T h)) e

      same : cond (eqb (move_refusal job T m).number 0) (moved T m) T ≡ moved T m
      same = rw (eq-eqb (move_refusal job T m).number 0 none)

  abbrev trial : ℕ → List ℕ → Trial
  trial u S = record { moment = u; starts = S }

  -- back one moment
  back_on : (u : ℕ) (S : List ℕ) → Passing job (trial (suc u) S) → Each (λ s. start_moment s ≤ u) S
      → (Passing job (trial u S) → GivenBy job (trial u S)) → GivenBy job (trial (suc u) S)
  unfolding on_refusal
  back_on u S h past r =
      let l : suc u ≤ last_moment job = h.present in
      let p : Passing job (trial u S) = record { present = omega arith; past = past; small = h.small; lawful = h.lawful } in
      let e : (own_refusal job (trial u S) On).number ≡ 0 = rw (lt-leb (last_moment job) u (omega arith)) in
      rw add-one at (reach_more (trial u S) On p e (r p))

  -- back one start: the last word, at the trial's moment
  module _ (S : List ℕ) (w : ℕ) (h : Passing job (trial (start_moment w) (S ++ (w ∷ [])))) where
    law : Lawful job (S ++ (w ∷ []))
    law = h.lawful

    smalls : Each (λ s. s < 2 ^ 32) S × (w < 2 ^ 32)
    smalls = each_init S w h.small

    words : Each (λ s. is_start job s ≡ true) S × (is_start job w ≡ true)
    words = each_init S w law.words

    right : Right job w
    right = right_of words.1

    whole : w ≡ start_word (start_moment w) (start_action w)
    whole = word_is right smalls.1

    order : Pairs (λ s s'. s < s') S × Each (λ s. s < w) S
    order = pairs-init S w law.order

    apart : Pairs (λ s s'. restarts job s s' ≡ false) S × Each (λ s. restarts job s w ≡ false) S
    apart = pairs-init S w law.apart

    agree : Pairs (λ s s'. clashing job s s' ≡ false) S × Each (λ s. clashing job s w ≡ false) S
    agree = pairs-init S w law.agree

    ends : Each (λ s. finish job s ≤ last_moment job) S × (finish job w ≤ last_moment job)
    ends = each_init S w law.ends

    inside : Each (λ s. may_start job (start_moment s) (start_action s) ≡ true) S × (may_start job (start_moment w) (start_action w) ≡ true)
    inside = each_init S w law.inside

    past : Each (λ s. start_moment s ≤ start_moment w) S × (start_moment w ≤ start_moment w)
    past = each_init S w h.past

    at-end : insert w S ≡ S ++ (w ∷ [])
    at-end = insert-last w order.1

    met : Each (λ s. unmet_at job (S ++ (w ∷ [])) (start_moment s) (start_action s) ≡ false) S
        × (unmet_at job (S ++ (w ∷ [])) (start_moment w) (start_action w) ≡ false)
    met = each_init S w law.met

    unmet-same : (t a : ℕ) → t ≤ start_moment w → unmet_at job S t a ≡ unmet_at job (S ++ (w ∷ [])) t a
    unmet-same t a l = rw (← at-end) (sym (unmet-before job w (formed.lasting (start_action w) right.action) S t a l))

    earlier : Passing job (trial (start_moment w) S)
    earlier = record {
      present = h.present;
      past = past.0;
      small = smalls.0;
      lawful = record {
        words = words.0;
        order = order.0;
        ends = ends.0;
        apart = apart.0;
        agree = agree.0;
        inside = inside.0;
        within = λ g l. within-fewer job (in_group job g) (limit_of job g) (one_inserted job (in_group job g) w S) (rw at-end (law.within g l));
        met = each_with (λ s l e. unmet-same (start_moment s) (start_action s) l ∙ e) past.0 met.0;
      };
    }

    -- it is new to the trial, so that its number is that of the whole check: none
    startable_last : (start_refusal job (trial (start_moment w) S) (start_action w)).number ≡ 0
    startable_last = same ∙ rw (← whole, at-end) ((lawful job (S ++ (w ∷ [])) h.small).1 law)
      where
        new : Each (λ s. s ≡ start_word (start_moment w) (start_action w) → ⊥) S
        new = each_map (λ s l e. omega (arith, whole)) order.1

        same : (start_refusal job (trial (start_moment w) S) (start_action w)).number ≡ (starts_refusal job (insert (start_word (start_moment w) (start_action w)) S)).number
        same = agrees job formed (trial (start_moment w) S) earlier (start_action w) (omega arith) new

    back_start : (Passing job (trial (start_moment w) S) → GivenBy job (trial (start_moment w) S)) → GivenBy job (trial (start_moment w) (S ++ (w ∷ [])))
    back_start r =
        rw (← whole, at-end) at (reach_more (trial (start_moment w) S) (Start (start_action w)) earlier startable_last (r earlier))

  -- the last word's moment is the latest
  latest : (S : List ℕ) (w : ℕ) → Each (λ s. s < 2 ^ 32) (S ++ (w ∷ [])) → Lawful job (S ++ (w ∷ [])) → Each (λ s. start_moment s ≤ start_moment w) (S ++ (w ∷ []))
  latest S w small lawful =
      let smalls = each_init S w small in
      let words = each_init S w lawful.words in
      let below = (pairs-init S w lawful.order).1 in
      each_last w (in_order {job = job} (right_of words.1) smalls.1 words.0 smalls.0 below) (omega arith)

  given_fresh : GivenBy job fresh
  unfolding played
  given_fresh = record { moves = []; gives = refl }

  -- by the number of moments and starts
  abbrev Back : ℕ → ℕ → List ℕ → Type 0
  Back k u S = u + length S ≤ k → Passing job (trial u S) → GivenBy job (trial u S)

  step : (k u : ℕ) {S : List ℕ} → Last S → ((u : ℕ) (S : List ℕ) → Back k u S) → Back (suc k) u S
  step k zero no_last ih l h = given_fresh
  step k (suc u) no_last ih l h = back_on u [] h each_none (ih u [] (omega arith))
  step k u (the_last S w) ih l h = cases u (dec_lt (start_moment w) u) l h
    where
      cases : (u : ℕ) → Dec (start_moment w < u) → u + length (S ++ (w ∷ [])) ≤ suc k → Passing job (trial u (S ++ (w ∷ []))) → GivenBy job (trial u (S ++ (w ∷ [])))
      cases zero (yes m) l h = absurd (omega arith)
      cases (suc u) (yes m) l h =
          back_on u (S ++ (w ∷ [])) h (each_map (λ s n. omega arith) (latest S w h.small h.lawful)) (ih u (S ++ (w ∷ [])) (omega arith))
      cases u (no m) l h =
          let le : start_moment w ≤ u = (each_init S w h.past).1 in
          let same : u ≡ start_moment w = omega arith in
          let few : start_moment w + length S ≤ k = omega (arith, length-append S (w ∷ [])) in
          rw same (back_start S w (rw same at h) (ih (start_moment w) S few))

  back : (k u : ℕ) (S : List ℕ) → Back k u S
  back zero zero [] l h = given_fresh
  back zero (suc u) S l h = absurd (omega arith)
  back zero zero (s ∷ S) l h = absurd (omega arith)
  back (suc k) u S l h = step k u (last_of S) (back k) (omega arith) h

pub given_exactly : GivenExactly
given_exactly job good T small = (
  λ e. back job good (T.moment + length T.starts) T.moment T.starts (omega arith) (passing job T small e),
  λ r. passes job T (rw r.gives at (played-passing job (well_formed job good) r.moves)),
)
