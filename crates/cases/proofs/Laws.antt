-- What find's contract owes to a case that passes its test, and so to each case of the table. Assumes nothing.
use Prim.Native.Nat.{ℕ, suc, ◌-◌, ◌*◌, ◌≤◌, ◌<◌}
use mathlib.Core.Bool.{Bool, true, false, ◌&&◌, ◌||◌, not, false≢true, true≢false}
use mathlib.Core.Path.{◌≡◌, refl, sym, ap, ◌∙◌, subst}
use mathlib.Core.Logic.Iff
use mathlib.Core.Logic.{⊎_elim}
use mathlib.Core.List.Memᴰ
use mathlib.Core.List.{List, [], ◌∷◌, ◌++◌, Memᴰ}
use native.Mathlib.Omega.{arith}
use lib.Dec.{eqb, leb}
use lib.ListN.{length, drop}
use borrow.Author.Tests.{ne_eqb, le-ltb, not-true}
use Rattle.words.specs.Fields.{start_action}
use Rattle.words.specs.Scan.{any}
use Rattle.words.proofs.Choices.{both_true}
use Rattle.answers.specs.declared.Refusal.{Refusal}
use Rattle.answers.specs.declared.Answer.{Answer}
use Rattle.answers.specs.declared.Answer.TheVariants.{Accepted, Refused}
use Rattle.answers.specs.Packed.{packed}
use Rattle.answers.specs.Rows.{refusal}
use Rattle.answers.proofs.Rows.{or_none}
use Rattle.job.specs.Refusal.{job_refusal}
use Rattle.job.specs.Parts.{node_count, last_moment}
use Rattle.job.proofs.WellFormed.{well_formed}
use Rattle.theory.specs.Answers.{check_refusal}
use Rattle.theory.specs.Trajectory.{is_start_of, plan_trajectory, trajectory_of}
use Rattle.job.specs.Procedure.{procedure_of}
use Rattle.reading.specs.Reading.{HasReading}
use Rattle.model.specs.declared.Triple.{Triple}
use Rattle.reading.specs.Count.{Distinct, none, more, Read}
use Rattle.words.proofs.AllBelow.{all_below, all_law}
use Rattle.cases.proofs.Decides.{Tells, and_law, or_law, eq_law, le_law, FewActions, decides}
use Rattle.finder.specs.Find.{find_refusal, RootReading, Triples, Outcome, refused, sought, unread as without-reading, read as with-reading}
use Rattle.finder.proofs.Job.{formed_job}
use Rattle.finder.proofs.Refusals.{by_check}
use Rattle.cases.specs.Cases.{Expected, refuses, unread, reads, Case, triple, table, buffer_after, EachOwed}
use Rattle.cases.proofs.Test.{decided, same, listed, distinct, sound, complete, exactly, fits, rooted, same_words, only, answers, passed, all_passed}
use Rattle.reading.proofs.Counts.{counted_once}
use Rattle.cases.proofs.Only.{on_each_lem}
use Rattle.cases.proofs.Computed.{computed}

-- ---- the tests on lists of triples

no : (a : Bool) → not a ≡ true → a ≡ true → ⊥
no a h e = true≢false (sym e ∙ not-true a h)

same_law : (s r : Triple) → Tells (same s r) (s ≡ r)
same_law s r = Iff.trans
    (and_law _ _ (eq_law s.node r.node) (and_law _ _ (eq_law s.begin r.begin) (eq_law s.end r.end)))
    (λ h. λ i. record { node = h.0 i; begin = h.1.0 i; end = h.1.1 i }, λ e. (ap (λ (t : Triple). t.node) e, (ap (λ (t : Triple). t.begin) e, ap (λ (t : Triple). t.end) e)))

listed_law : (s : Triple) (rs : List Triple) → Tells (listed s rs) (Memᴰ s rs)
unfolding listed
listed_law s [] = (λ h. absurd (false≢true h), λ m. absurd (Memᴰ.not-nil m))
listed_law s (r ∷ rs) = Iff.trans (or_law _ _ (same_law s r) (listed_law s rs)) (⊎_elim Memᴰ.head Memᴰ.tail, Memᴰ.cases_cons)

distinct_law : (rs : List Triple) → distinct rs ≡ true → Distinct rs
unfolding distinct
distinct_law [] h = none
distinct_law (r ∷ rs) h = let (a, b) = both_true (not (listed r rs)) (distinct rs) h in more (λ m. no (listed r rs) a ((listed_law r rs).1 m)) (distinct_law rs b)

same_words_lem : (us vs : List ℕ) → same_words us vs ≡ true → us ≡ vs
unfolding same_words
same_words_lem [] [] h = refl
same_words_lem [] (v ∷ vs) h = absurd (false≢true h)
same_words_lem (u ∷ us) [] h = absurd (false≢true h)
same_words_lem (u ∷ us) (v ∷ vs) h = let (a, b) = both_true (eqb u v) (same_words us vs) h in let e = (eq_law u v).0 a in let q = same_words_lem us vs b in cc

-- ---- a job that is well formed: the test tells the readings, and the listed triples are those that have one

-- a start word names an action below 64
few_actions : (job starts : List ℕ) → FewActions (plan_trajectory job starts)
unfolding trajectory_of
few_actions job starts a t l = none starts
  where
    none : (ws : List ℕ) → any (is_start_of a t) ws ≡ false
    none [] = refl
    none (w ∷ ws) = rw (ne_eqb (start_action w) a (λ q. omega arith)) (none ws)

module _ (job starts : List ℕ) (ok : (job_refusal job).number ≡ 0) where
  decided_law : {p b e : ℕ} → p < node_count job → b ≤ last_moment job → Tells (decided job starts p b e) (HasReading (procedure_of job) (plan_trajectory job starts) p b e)
  unfolding decided procedure_of trajectory_of
  decided_law {p} {b} {e} h l =
      let w = well_formed job ok in
      decides (formed_job job starts w) (omega (arith, w.few_moments)) (few_actions job starts) (node_count job * 64) p b e h l (omega arith)

  sound_law : (rs : List Triple) → sound job starts rs ≡ true → (s : Triple) → Memᴰ s rs → Read (procedure_of job) (plan_trajectory job starts) s
  unfolding sound procedure_of trajectory_of
  sound_law [] h s m = absurd (Memᴰ.not-nil m)
  sound_law (r ∷ rs) h s m =
      let (a, b) = both_true _ (sound job starts rs) h in
      let (c, d) = both_true (leb (suc r.node) (node_count job) && leb r.begin r.end) (leb r.end (last_moment job) && decided job starts r.node r.begin r.end) a in
      let (i, j) = (and_law _ _ (le_law (suc r.node) (node_count job)) (le_law r.begin r.end)).0 c in
      let (k, l) = (and_law _ _ (le_law r.end (last_moment job)) Iff.rfl).0 d in
      let here : Read (procedure_of job) (plan_trajectory job starts) r = (i, j, (decided_law {p = r.node} {b = r.begin} {e = r.end} i (omega arith)).0 l) in
      ⊎_elim (λ e. subst (λ (t : Triple). Read (procedure_of job) (plan_trajectory job starts) t) (sym e) here) (sound_law rs b s) (Memᴰ.cases_cons m)

  complete_law : (rs : List Triple) → complete job starts rs ≡ true → (s : Triple) → Read (procedure_of job) (plan_trajectory job starts) s → Memᴰ s rs
  unfolding complete procedure_of trajectory_of
  complete_law rs h s (i, j, k) =
      let n = last_moment job in
      let a = (all_law (λ p. all_below (λ b. all_below (λ e. not (decided job starts p b e) || listed (triple p b e) rs) (suc n)) (suc n)) (node_count job)).0 h s.node i in
      let b = (all_law (λ b. all_below (λ e. not (decided job starts s.node b e) || listed (triple s.node b e) rs) (suc n)) (suc n)).0 a s.begin (omega (arith, k.0)) in
      let c = (all_law (λ e. not (decided job starts s.node s.begin e) || listed (triple s.node s.begin e) rs) (suc n)).0 b s.end (omega (arith, k.0)) in
      ⊎_elim (λ d. absurd (no _ d ((decided_law i (omega (arith, k.0))).1 k))) (λ d. d) ((or_law _ _ Iff.rfl (listed_law s rs)).0 c)

  exactly_law : (rs : List Triple) → exactly job starts rs ≡ true → Triples job starts (length rs)
  unfolding exactly
  exactly_law rs h =
      let (a, b) = both_true (distinct rs) _ h in
      let (c, d) = both_true (sound job starts rs) (complete job starts rs) b in
      record { triples = rs; distinct = distinct_law rs a; exact = λ s. (sound_law rs c s, complete_law rs d s); many = refl }

  root_law : Tells (rooted job starts) (HasReading (procedure_of job) (plan_trajectory job starts) (node_count job - 1) 0 (last_moment job))
  unfolding rooted
  root_law = decided_law (omega (arith, (well_formed job ok).some_nodes)) (omega arith)

-- ---- a case that passes

module _ (job starts facts before : List ℕ) (room : 4096 ≤ length before) where
  abbrev row : Refusal
  row = check_refusal job starts facts

  formed : row.number ≡ 0 → (job_refusal job).number ≡ 0
  unfolding check_refusal
  formed h = (or_none (job_refusal job) _ h).0

  -- with room in the buffer the row is check's
  same_row : find_refusal (length before) job starts facts ≡ row
  same_row = sym (by_check (length before) job starts facts (rw (le-ltb (length before) 4096 room)))

  -- a plan that passes is not refused
  not_refused : {n p : ℕ} → row.number ≡ 0 → find_refusal (length before) job starts facts ≡ refusal n p → n ≡ 0
  not_refused z e = sym (ap (λ (r : Refusal). r.number) (sym same_row ∙ e)) ∙ z

  -- a plan that passes, whose root reads: a reading is found, with the count of the listed triples, and left in front
  found : (rs : List Triple) → (eqb row.number 0 && (rooted job starts && exactly job starts rs)) ≡ true
      → {a : Answer} {after : List ℕ} → Outcome job starts facts before a after
      → (ws : List ℕ) × RootReading job starts ws × (a ≡ Accepted (length ws) (length rs)) × (after ≡ ws ++ drop (length ws) before)
  found rs h (refused e z) = absurd (z (not_refused ((eq_law row.number 0).0 (both_true (eqb row.number 0) _ h).0) e))
  found rs h (sought e (without-reading t f)) =
      let (a, b) = both_true (eqb row.number 0) _ h in
      let k = (root_law job starts (formed ((eq_law row.number 0).0 a))).0 (both_true (rooted job starts) _ b).0 in
      absurd (f k.1.0 k.1.1)
  found rs h (sought e (with-reading {ws = ws} t r)) =
      let (a, b) = both_true (eqb row.number 0) _ h in
      let ok = formed ((eq_law row.number 0).0 a) in
      (ws, r, ap (Accepted (length ws)) (counted_once _ _ _ _ t (exactly_law job starts ok rs (both_true (rooted job starts) _ b).1)), refl)

  -- each reading of the root has these words
  root_words : (us : List ℕ) → only job starts us ≡ true → {ws : List ℕ} → RootReading job starts ws → ws ≡ us
  unfolding only
  root_words us h {ws} r = same_words_lem ws us (on_each_lem _ _ (node_count job * 64) (λ ws. same_words ws us) r h)

  owed : (x : Expected) (n : ℕ) → answers job starts row x n ≡ true → {a : Answer} {after : List ℕ} → Outcome job starts facts before a after
      → (packed a ≡ n) × (after ≡ buffer_after x before)
  unfolding answers fits trajectory_of
  owed (refuses n p) k h (refused {n = m} {p = q} e z) =
      let (f, g) = both_true (fits row n p && not (eqb n 0)) _ h in
      let (a, b) = both_true (fits row n p) (not (eqb n 0)) f in
      let (c, d) = (and_law _ _ (eq_law row.number n) (eq_law row.position p)).0 a in
      let same = sym same_row ∙ e in
      let i : m ≡ n = sym (ap (λ (r : Refusal). r.number) same) ∙ c in
      let j : q ≡ p = sym (ap (λ (r : Refusal). r.position) same) ∙ d in
      (rw (i, j) (sym ((eq_law k (packed (Refused n p 0))).0 g)), refl)
  owed (refuses n p) k h (sought e s) =
      let (f, g) = both_true (fits row n p && not (eqb n 0)) _ h in
      let (a, b) = both_true (fits row n p) (not (eqb n 0)) f in
      let (c, d) = (and_law _ _ (eq_law row.number n) (eq_law row.position p)).0 a in
      let zero : row.number ≡ 0 = rw same_row at e in
      absurd (no (eqb n 0) b ((eq_law n 0).1 (sym c ∙ zero)))
  owed (unread rs) k h (refused e z) =
      let (f, g) = both_true _ (eqb k (packed (Refused 13 0 (length rs)))) h in
      absurd (z (not_refused ((eq_law row.number 0).0 (both_true (eqb row.number 0) _ f).0) e))
  owed (unread rs) k h (sought e (without-reading t s)) =
      let (f, g) = both_true _ (eqb k (packed (Refused 13 0 (length rs)))) h in
      let (a, b) = both_true (eqb row.number 0) _ f in
      let ok = formed ((eq_law row.number 0).0 a) in
      let count = counted_once _ _ _ _ t (exactly_law job starts ok rs (both_true (not (rooted job starts)) (exactly job starts rs) b).1) in
      (ap (λ (c : ℕ). packed (Refused 13 0 c)) count ∙ sym ((eq_law k (packed (Refused 13 0 (length rs)))).0 g), refl)
  owed (unread rs) k h (sought e (with-reading {ws = ws} t r)) =
      let (f, g) = both_true _ (eqb k (packed (Refused 13 0 (length rs)))) h in
      let (a, b) = both_true (eqb row.number 0) _ f in
      let ok = formed ((eq_law row.number 0).0 a) in
      absurd (no _ (both_true (not (rooted job starts)) (exactly job starts rs) b).0 ((root_law job starts ok).1 (omega arith, (ws, r))))
  owed (reads us rs) k h o =
      let (f, g) = both_true _ (only job starts us && eqb k (packed (Accepted (length us) (length rs)))) h in
      let (a, b) = both_true (only job starts us) _ g in
      let (ws, r, answer, after) = found rs f o in
      let same = root_words us a r in (
        ap packed answer ∙ ap (λ (vs : List ℕ). packed (Accepted (length vs) (length rs))) same ∙ sym ((eq_law k (packed (Accepted (length us) (length rs)))).0 b),
        after ∙ ap (λ (vs : List ℕ). vs ++ drop (length vs) before) same,
      )

-- each case of a list that passes does
each_passed : (cs : List Case) → all_passed cs ≡ true → (c : Case) → Memᴰ c cs → passed c ≡ true
unfolding all_passed
each_passed [] h c m = absurd (Memᴰ.not-nil m)
each_passed (d ∷ cs) h c m = let (a, b) = both_true (passed d) (all_passed cs) h in ⊎_elim (λ e. ap passed e ∙ a) (each_passed cs b c) (Memᴰ.cases_cons m)

-- the law of the table: whatever find's contract allows for a case, with at least 4,096 words of buffer, is what the case is owed
pub each_owed : EachOwed
unfolding passed
each_owed c m before after r room found =
    let (number, buffer) = owed c.job c.starts c.facts before room c.expected c.number (each_passed table computed c m) found.outcome in
    (found.number ∙ number, buffer)
