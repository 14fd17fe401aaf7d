-- The needs of an action, by the history of a plan; a start that is put in changes none up to its own moment. Assumes nothing.
use mathlib.Core.Bool.{Bool}
use mathlib.Core.List.{List}
use mathlib.Core.Path.{◌≡◌, sym, ◌∙◌}
use Prim.Native.Nat.{ℕ, ◌+◌, ◌*◌, ◌≤◌, ◌<◌}
use native.Mathlib.Omega.{arith}
use borrow.Author.Tests.{eqb-true}
use lib.ListN.{length, get_or, drop, length-drop}
use lib.Seq.{get_or-drop}
use Rattle.words.specs.Fields.{of_kind, kind, fluent_of, start_moment, start_action}
use Rattle.words.specs.Scan.{any, take_while}
use Rattle.words.specs.Lists.{insert}
use Rattle.words.proofs.Scan.{take_while-entry, any-agree}
use Rattle.words.proofs.Lists.{each_of}
use Rattle.job.specs.Parts.{head_word, fluents, actions, duration, laws_of}
use Rattle.job.proofs.ByPlace.{action_counted, laws_place}
use Rattle.history.specs.Values.{value_at}
use Rattle.history.proofs.Before.{value_before}
use Rattle.starts.specs.Rows.{unmet, unmet_at, needs_unmet}
use Rattle.starts.specs.Code.Given.{Recorded}
use Rattle.starts.proofs.StartsFormed.{right_word}

module _ {job places ends history starts : List ℕ} (given : Recorded job places ends history starts) (a : ℕ) (h : a < actions job) where
  -- the laws of an action speak of fluents of the job
  law_fluent : (i : ℕ) → i < length (laws_of job a) → fluent_of (head_word job) (get_or (laws_of job a) i 0) < fluents job
  law_fluent i l =
      let e = laws_place given.rules.indexed a (action_counted given.rules.formed h) in
      rw e (leads (rw e at l))
    where
      p : ℕ
      p = get_or places a 0 + 1

      leads : i < length (take_while (of_kind 4) (drop p job)) → fluent_of (head_word job) (get_or (take_while (of_kind 4) (drop p job)) i 0) < fluents job
      leads l =
          let entry = take_while-entry (of_kind 4) (drop p job) i l in
          let same : get_or (drop p job) i 0 ≡ get_or job (p + i) 0 = rw get_or-drop in
          rw (entry.0, same)
          (given.rules.formed.law (p + i) (omega (arith, entry.2, length-drop p job)) (eqb-true (kind (get_or job (p + i) 0)) 4 (rw same at entry.1)))

  pub needs_read : (t : ℕ) → t ≤ given.last → any (unmet (head_word job) (λ f. get_or history (t * 256 + f) 0)) (laws_of job a) ≡ unmet_at job starts t a
  needs_read t m = any-agree _ _ (each_of (laws_of job a) agree)
    where
      agree : (i : ℕ) → i < length (laws_of job a)
          → unmet (head_word job) (λ f. get_or history (t * 256 + f) 0) (get_or (laws_of job a) i 0) ≡ unmet (head_word job) (value_at job starts t) (get_or (laws_of job a) i 0)
      agree i l = rw (given.values.entry t (fluent_of (head_word job) (get_or (laws_of job a) i 0)) m (law_fluent i l))

-- row 10 by what the code has read of word i: its action a with its laws, its moment u, and whether one of them is unmet then
pub unmet-read : {job places ends history starts : List ℕ} → Recorded job places ends history starts → {i : ℕ} → i < length starts
    → {a : ℕ} → a ≡ start_action (get_or starts i 0) → {laws : List ℕ} → laws ≡ laws_of job a → {u : ℕ} → u ≡ start_moment (get_or starts i 0)
    → {r : Bool} → r ≡ any (unmet (head_word job) (λ f. get_or history (u * 256 + f) 0)) laws → needs_unmet job starts i ≡ r
unfolding needs_unmet
unmet-read given {i} l ea el eu er =
    let right = right_word given.words i l in
    sym (er ∙ rw (el, ea, eu) (needs_read given _ right.action _ (given.past i l)))

pub unmet-before : (job : List ℕ) (w : ℕ) → 0 < duration job (start_action w) → (starts : List ℕ) (t a : ℕ) → t ≤ start_moment w
    → unmet_at job (insert w starts) t a ≡ unmet_at job starts t a
unmet-before job w lasts starts t a l =
    any-agree _ _ (each_of (laws_of job a) (λ i m. rw (value_before job w lasts starts t (fluent_of (head_word job) (get_or (laws_of job a) i 0)) l)))
