-- A new start has in a trial the number that the whole check gives the trial's starts with its word put in: row by row. Assumes nothing.
use mathlib.Core.Bool.{Bool, true, false, not, cond, ◌&&◌, true≢false, and-false}
use mathlib.Core.List.{List, [], ◌∷◌}
use mathlib.Core.Logic.{by_cases}
use mathlib.Core.Path.{◌≡◌, refl, ap, sym, ◌∙◌}
use Prim.Native.Nat.{ℕ, ◌+◌, ◌<◌, ◌≤◌}
use native.Mathlib.Decide.{dec_lt}
use native.Mathlib.Omega.{arith}
use borrow.Author.Tests.{ltb-true, ltb-false, leb-false, le-ltb, lt-ltb, le-leb, lt-leb, eqb-true, eq-eqb, ne_eqb}
use lib.Dec.{eqb, leb, ltb}
use lib.ListN.{length, get_or}
use Rattle.words.specs.Fields.{kind, field, start_moment, start_action, start_word}
use Rattle.words.specs.Scan.{any, any_below}
use Rattle.words.specs.Lists.{Each, each_none, each_more, Pairs, pairs-none, pairs-more, insert}
use Rattle.words.proofs.Choices.{is_false, both_true}
use Rattle.words.proofs.AnyBelow.{some_none, none_below}
use Rattle.words.proofs.Lists.{each_of, each_at, small_at, pairs_of, pairs-at, each_map, each_with, any_none, none_any}
use Rattle.words.proofs.Insert.{each_insert, pairs-insert, order_insert}
use Rattle.answers.specs.declared.Refusal.{Refusal}
use Rattle.answers.specs.Rows.{row, first_refusal, first_row, first_of}
use Rattle.answers.proofs.Range.{first_all}
use Rattle.answers.proofs.Rows.{or_refused, or_passed}
use Rattle.job.specs.Parts.{actions, last_moment, duration, limit_of, in_group}
use Rattle.job.specs.Refusal.{job_refusal}
use Rattle.job.specs.Code.WellFormed.{WellFormed}
use Rattle.job.proofs.WellFormed.{well_formed}
use Rattle.history.specs.Actions.{finish}
use Rattle.history.specs.Held.{Ascending}
use Rattle.starts.specs.Rows.{is_start, wrong_word, ends_late, restarts, in_hand_already, clashing, clashes, may_start, outside_windows, over_limit, group_exceeded, unmet_at, needs_unmet, numbered, rows_refusal, starts_refusal}
use Rattle.starts.proofs.Rows.{NoneFits, no_row, and_row, none_rows, row-clear, rows_last}
use Rattle.starts.proofs.StartsFormed.{right_of, word_is, word_moment, word_action, is_start-at, words_formed, ascending}
use Rattle.starts.proofs.GroupLimits.{rows_keep, keeps_rows, start_keeps, keeps_start}
use Rattle.starts.proofs.Needs.{unmet-before}
use Rattle.starts.proofs.Opposed.{clashing-swap}
use Rattle.theory.specs.Answers.{plan_refusal}
use Rattle.moves.specs.Trials.{Trial, busy, trial_refusal, start_refusal, move_refusal}
use Rattle.moves.specs.Promises.{MoveAgrees}
use Rattle.moves.proofs.Passing.{Passing, passing}

-- a test of a trial fails exactly where a row fits none of n words
record Alike (n : ℕ) (b : Bool) (test : ℕ → Bool) : Type 0 where
  to : b ≡ false → (i : ℕ) → i < n → test i ≡ false
  from : ((i : ℕ) → i < n → test i ≡ false) → b ≡ false

-- the rows of a trial beside those on n words, with the same numbers: each two are alike, where the tests before them fail
data Beside (n : ℕ) : List Refusal → List (ℕ × (ℕ → Bool)) → Type 0 where
  no_more : Beside n [] []
  beside : {b : Bool} {number : ℕ} {test : ℕ → Bool} {rs : List Refusal} {rest : List (ℕ × (ℕ → Bool))} → 0 < number → Alike n b test
      → (b ≡ false → Beside n rs rest) → Beside n (row b number 0 ∷ rs) ((number, test) ∷ rest)

-- a row on words that fits gives its own number
own_number : (number : ℕ) (test : ℕ → Bool) (n : ℕ) → let r = first_of (numbered number test) n in (r.number ≡ 0 → ⊥) → r.number ≡ number
own_number number test n =
    first_all (λ r. (r.number ≡ 0 → ⊥) → r.number ≡ number) (numbered number test) n (λ h. absurd (h refl)) (λ i l. cases (test i))
  where
    cases : (t : Bool) → (cond t number 0 ≡ 0 → ⊥) → cond t number 0 ≡ number
    cases true h = refl
    cases false h = absurd (h refl)

-- the first of some rows, by the one in front
front : (r : Refusal) (rs : List Refusal) → (first_row (r ∷ rs)).number ≡ (first_refusal r (first_row rs)).number
front r [] = cases (eqb r.number 0) refl
  where
    cases : (t : Bool) → eqb r.number 0 ≡ t → r.number ≡ (cond t (first_row []) r).number
    cases true e = eqb-true r.number 0 e
    cases false e = refl
front r (s ∷ rs) = refl

-- the first that fits has the same number
same_number : {n : ℕ} {rs : List Refusal} {rows : List (ℕ × (ℕ → Bool))} → Beside n rs rows → (first_row rs).number ≡ (rows_refusal rows n).number
unfolding rows_refusal
same_number no_more = refl
same_number {n} (beside {b} {number} {test} {rs} {rest} positive alike later) = front (row b number 0) rs ∙ cases b refl (λ e. same_number (later e))
  where
    cases : (t : Bool) → b ≡ t → (b ≡ false → (first_row rs).number ≡ (rows_refusal rest n).number)
        → (first_refusal (row t number 0) (first_row rs)).number ≡ (rows_refusal ((number, test) ∷ rest) n).number
    cases true e ih =
        let found : (first_of (numbered number test) n).number ≡ 0 → ⊥ = λ z. true≢false (sym e ∙ alike.from (row-clear number test n positive z)) in
        rw (ne_eqb number 0 (λ z. omega arith))
        (sym (own_number number test n found) ∙ ap (λ (r : Refusal). r.number) (or_refused (first_of (numbered number test) n) (rows_refusal rest n) found))
    cases false e ih =
        let none : NoneFits n ((number, test) ∷ []) = and_row (alike.to e) no_row in
        let clear : (first_of (numbered number test) n).number ≡ 0 = ap (λ (r : Refusal). r.number) (rows_last number test n) ∙ none_rows none in
        ih e ∙ ap (λ (r : Refusal). r.number) (or_passed (first_of (numbered number test) n) (rows_refusal rest n) clear)

-- what is so of each word of a list with w put in is so of w
module _ {P : ℕ → Type 0} (w : ℕ) where
  each_out : (S : List ℕ) → Each P (insert w S) → P w
  unfolding insert
  each_out [] (each_more p a) = p
  each_out (s ∷ S) a = cases (ltb w s) (each_out S) a
    where
      cases : (t : Bool) → (Each P (insert w S) → P w) → Each P (cond t (w ∷ s ∷ S) (s ∷ insert w S)) → P w
      cases true ih (each_more p a) = p
      cases false ih (each_more q a) = ih a

-- what is so of each two is so of w and each word, in their order, where the list ascends
record With (R : ℕ → ℕ → Type 0) (w s : ℕ) : Type 0 where
  before : s ≤ w → R s w
  after : w < s → R w s

module _ {R : ℕ → ℕ → Type 0} (w : ℕ) where
  pairs-out : {S : List ℕ} → Pairs (λ s s'. s < s') S → Pairs R (insert w S) → Each (With R w) S
  unfolding insert
  pairs-out pairs-none p = each_none
  pairs-out (pairs-more {s} {ss} l ls) p = cases (ltb w s) refl (pairs-out ls) p
    where
      cases : (t : Bool) → ltb w s ≡ t → (Pairs R (insert w ss) → Each (With R w) ss) → Pairs R (cond t (w ∷ s ∷ ss) (s ∷ insert w ss))
          → Each (With R w) (s ∷ ss)
      cases true e ih (pairs-more (each_more r rs) p) =
          let m = ltb-true w s e in
          let above : (v : ℕ) → w < v → R w v → With R w v = λ v l q. record { before = λ k. absurd (omega arith); after = λ k. q } in
          each_more (above s m r) (each_with (λ v l q. above v (omega arith) q) l rs)
      cases false e ih (pairs-more a p) =
          let m = ltb-false w s e in
          let here : With R w s = record { before = λ k. each_out w ss a; after = λ k. absurd (omega arith) } in
          each_more here (ih p)

-- a start of action a at the moment of a trial that passes
module _ (job : List ℕ) (formed : WellFormed job) (T : Trial) (h : Passing job T) (a : ℕ) (small : a < 64) where
  abbrev u : ℕ
  u = T.moment

  abbrev S : List ℕ
  S = T.starts

  abbrev w : ℕ
  w = start_word T.moment a

  abbrev L : List ℕ
  L = insert w S

  u_small : u < 64
  u_small = omega (arith, formed.few_moments, h.present)

  pub at-u : start_moment (start_word T.moment a) ≡ T.moment
  at-u = word_moment u a u_small small

  pub of_a : start_action (start_word T.moment a) ≡ a
  of_a = word_action u a u_small small

  pub lasts : a < actions job → 0 < duration job (start_action (start_word T.moment a))
  lasts l = rw of_a (formed.lasting a l)

  -- a row on each word, where a trial tests the new word alone; a row on each two, where it tests each of its starts beside the new word
  by_word : (t : ℕ → Bool) {b : Bool} → t w ≡ b → Each (λ s. t s ≡ false) S → Alike (length L) b (λ i. t (get_or L i 0))
  by_word t is free = record {
    to = λ e. each_at (each_insert w (is ∙ e) free);
    from = λ f. sym is ∙ each_out {P = λ s. t s ≡ false} w S (each_of L f);
  }

  by_pair : (t : ℕ → ℕ → Bool) (q : ℕ → Bool) → Pairs (λ s s'. t s s' ≡ false) S → Each (λ s. q s ≡ false → (t s w ≡ false) × (t w s ≡ false)) S
      → Each (λ s. With (λ s s'. t s s' ≡ false) w s → q s ≡ false) S
      → Alike (length L) (any q S) (λ i. any_below (λ j. t (get_or L j 0) (get_or L i 0)) i)
  by_pair t q free there back = record {
    to = λ e i l. some_none _ i (λ j m. pairs-at (all_free (none_any q S e)) i j m l);
    from = λ f. any_none q (each_with (λ s g p. g p) back (pairs-out w h.lawful.order (pairs_of L (λ i j l m. none_below _ i (f i m) j l))));
  }
    where
      all_free : Each (λ s. q s ≡ false) S → Pairs (λ s s'. t s s' ≡ false) L
      all_free n = pairs-insert w (each_with (λ s g e. (g e).0) there n) (each_with (λ s g e. (g e).1) there n) free

  -- the trial does not have it
  abbrev New : Type 0
  New = Each (λ s. s ≡ w → ⊥) S

  -- row 6: the new word is a start of the job exactly where there is such an action
  is_start_lem : a < actions job → is_start job w ≡ true
  is_start_lem l =
      rw (
        eq-eqb (kind w) 9 (omega arith),
        eq-eqb (field w 27 12) 0 (omega arith),
        at-u,
        le-leb u (last_moment job) h.present,
        of_a,
        lt-ltb a (actions job) l,
      )

  row-6 : New → Alike (length L) (leb (actions job) a) (wrong_word job L)
  row-6 new = record {
    to = λ e. (words_formed (each_insert w (is_start_lem (leb-false _ _ e)) h.lawful.words) (order_insert w new h.lawful.order)).right;
    from = λ f. lt-leb _ _ (named (each_of L (λ i l. is_start-at job L i (f i l))));
  }
    where
      named : Each (λ s. is_start job s ≡ true) L → a < actions job
      named e = omega (arith, (right_of {job = job} {s = w} (each_out w S e)).action, of_a)

  row-7 : Alike (length L) (ltb (last_moment job) (u + duration job a)) (ends_late job L)
  unfolding ends_late
  row-7 = by_word (λ s. ltb (last_moment job) (finish job s)) (rw (at-u, of_a)) (each_map (λ s l. le-ltb _ _ l) h.lawful.ends)

  -- row 8: a start of the same action is of an earlier moment, so it stands before the new one
  abbrev Sooner : ℕ → Type 0
  Sooner s = start_action s ≡ a → (start_moment s < u) × (s ≤ w)

  sooner : New → Each Sooner S
  sooner new = each_with (λ s f n. f n) known new
    where
      earlier : (s : ℕ) → s ≡ start_word (start_moment s) (start_action s) → start_moment s ≤ u → (s ≡ w → ⊥) → Sooner s
      earlier s e l n same = by_cases (dec_lt (start_moment s) u) (λ m. (m, omega arith)) (λ m. absurd (n (omega arith)))

      whole : Each (λ s. s ≡ start_word (start_moment s) (start_action s)) S
      whole = each_with (λ s e k. word_is (right_of {job = job} e) k) h.lawful.words h.small

      known : Each (λ s. (s ≡ w → ⊥) → Sooner s) S
      known = each_with earlier whole h.past

  -- so where it is in hand, the new one is a restart, and never the other way round
  again : (s : ℕ) → Sooner s → restarts job s w ≡ busy job u a s
  again s sooner = rw (at-u, of_a) (cases (eqb (start_action s) a) refl)
    where
      cases : (t : Bool) → eqb (start_action s) a ≡ t
          → (t && (ltb (start_moment s) u && ltb u (finish job s))) ≡ (t && (leb (start_moment s) u && ltb u (finish job s)))
      cases true e =
          let l = (sooner (eqb-true _ _ e)).0 in
          rw (lt-ltb (start_moment s) u l, le-leb (start_moment s) u (omega arith))
      cases false e = refl

  not_later : (s : ℕ) → start_moment s ≤ u → restarts job w s ≡ false
  not_later s l = rw (at-u, le-ltb u (start_moment s) l) (and-false (eqb (start_action w) (start_action s)))

  row-8 : New → Alike (length L) (any (busy job u a) S) (in_hand_already job L)
  unfolding in_hand_already
  row-8 new =
      by_pair (restarts job) (busy job u a) h.lawful.apart
      (each_with (λ s f l e. (again s f ∙ e, not_later s l)) (sooner new) h.past)
      (each_map free (sooner new))
    where
      free : (s : ℕ) → Sooner s → With (λ s s'. restarts job s s' ≡ false) w s → busy job u a s ≡ false
      free s f p = is_false (busy job u a s) (λ e.
          let l = (f (eqb-true _ _ (both_true (eqb (start_action s) a) _ e).0)).1 in
          true≢false (sym e ∙ sym (again s f) ∙ p.before l))

  -- row 9: two starts clash whichever comes first
  row-9 : Alike (length L) (any (λ s. clashing job s w) S) (clashes job L)
  unfolding clashes
  row-9 =
      by_pair (clashing job) (λ s. clashing job s w) h.lawful.agree
      (each_map (λ s l e. (e, clashing-swap job w s ∙ e)) h.past)
      (each_map (λ s l p. by_cases (dec_lt w s) (λ m. clashing-swap job s w ∙ p.after m) (λ m. p.before (omega arith))) h.past)

  row-15 : Alike (length L) (not (may_start job u a)) (outside_windows job L)
  unfolding outside_windows
  row-15 = by_word (λ s. not (may_start job (start_moment s) (start_action s))) (rw (at-u, of_a)) (each_map (λ s e. ap not e) h.lawful.inside)

  -- row 16: with the new start, counted with all, each group stays within its limit exactly where no word exceeds it with those before it
  row-16 : New → leb (actions job) a ≡ false → Alike (length L) (over_limit job (w ∷ S) w) (group_exceeded job L)
  unfolding over_limit group_exceeded
  row-16 new named = record {
    to = λ e i l. some_none _ 8 (λ g m.
        keeps_rows job (in_group job g) (limit_of job g) L
        (start_keeps job (in_group job g) (limit_of job g) w S past (h.lawful.within g m) (none_below _ 8 e g m)) i l);
    from = λ f. some_none _ 8 (λ g m.
        keeps_start job (in_group job g) (limit_of job g) w S
        (rows_keep job (in_group job g) (limit_of job g) L ascends (λ i l. none_below _ 8 (f i l) g m)));
  }
    where
      past : Each (λ s. start_moment s ≤ start_moment w) S
      past = each_map (λ s m. omega (arith, at-u)) h.past

      ascends : Ascending L
      ascends = ascending {job = job} (record { right = (row-6 new).to named }) (small_at (each_insert w (omega (arith, u_small)) h.small))

  -- row 10: a start of the job changes no needs up to its own moment, and none of the trial's starts is later
  row-10 : a < actions job → Alike (length L) (unmet_at job S u a) (needs_unmet job L)
  unfolding needs_unmet
  row-10 l =
      by_word (λ s. unmet_at job L (start_moment s) (start_action s)) (before (start_moment w) (start_action w) (omega arith) ∙ rw (at-u, of_a))
      (each_with (λ s m e. before (start_moment s) (start_action s) (omega (arith, at-u)) ∙ e) h.past h.lawful.met)
    where
      before : (t b : ℕ) → t ≤ start_moment w → unmet_at job L t b ≡ unmet_at job S t b
      before t b m = unmet-before job w (lasts l) S t b m

  -- the rows in their order; what row 6 shows, rows 16 and 10 ask
  pub agrees : Each (λ s. s ≡ start_word T.moment a → ⊥) T.starts
      → (start_refusal job T a).number ≡ (starts_refusal job (insert (start_word T.moment a) T.starts)).number
  unfolding start_refusal starts_refusal
  agrees new =
      same_number (
      beside (omega arith) (row-6 new) (λ named.
      beside (omega arith) row-7 (λ _.
      beside (omega arith) (row-8 new) (λ _.
      beside (omega arith) row-9 (λ _.
      beside (omega arith) row-15 (λ _.
      beside (omega arith) (row-16 new named) (λ _.
      beside (omega arith) (row-10 (leb-false _ _ named)) (λ _. no_more))))))))

pub move_agrees : MoveAgrees
unfolding move_refusal plan_refusal
move_agrees job good T small e a l new =
    let L = insert (start_word T.moment a) T.starts in
    let number : Refusal → ℕ = λ r. r.number in
    sym (ap number (or_passed (trial_refusal job T) (start_refusal job T a) e ∙ or_passed (job_refusal job) (first_refusal (trial_refusal job T) (start_refusal job T a)) good))
    ∙ agrees job (well_formed job good) T (passing job T small e) a l new
    ∙ ap number (or_passed (job_refusal job) (starts_refusal job L) good)
