-- The state at the next moment: what starts that finish make, and over that what starts that hide leave open. Assumes nothing.
use mathlib.Core.Bool.{Bool, true, false}
use mathlib.Core.List.{List, [], ◌∷◌, ◌++◌}
use mathlib.Core.Path.{◌≡◌, ◌∙◌}
use Prim.Native.Nat.{ℕ, zero, suc, ◌+◌, ◌<◌}
use native.Mathlib.Numerals.{add-one}
use native.Mathlib.Omega.{arith}
use lib.ListN.{length, get_or, replicate, length-append, get_or-append}
use lib.Seq.{get_or-append_seam}
use Rattle.words.specs.Fields.{unknown, start_action}
use Rattle.words.specs.Scan.{filter}
use Rattle.job.specs.Parts.{head_word, fluents, actions, laws_of}
use Rattle.history.specs.Actions.{makes_fluent, law_value, effect, finish, affects}
use Rattle.history.specs.Values.{value_at}
use Rattle.history.specs.Held.{held_at, unfinished, Lasting}
use Rattle.history.specs.Code.Tables.{Durations, tabled_finish, Effects, Walkable, StateAt}
use Rattle.history.specs.Code.Stores.{Overlaid, Mapped}
use Rattle.history.specs.Code.Passes.{acts, leaves, changed_by, AfterPass}
use Rattle.history.proofs.Stores.{any-gives, overlaid_hit, overlaid_open}
use Rattle.history.proofs.Held.{next_held}

-- the values that an action makes, from its laws
pub effect-row : (job : List ℕ) (a : ℕ) {row : List ℕ} → Overlaid 256 (makes_fluent (head_word job)) (λ f. law_value (head_word job)) (replicate 256 unknown) (laws_of job a) row
    → (f : ℕ) → f < 256 → get_or row f 0 ≡ effect job a f
unfolding effect
effect-row job a = overlaid_open

-- no start changes the state at moment 0
pub state_start : {job starts state : List ℕ} → StateAt job [] 0 state → StateAt job starts 0 state
unfolding value_at
state_start s = record { room = s.room; value = s.value }

-- the two passes: over the starts in hand, and over those of them that do not finish
pub state_next : {job starts : List ℕ} (t : ℕ) {held kept old mid new : List ℕ} → Lasting job starts
    → held ≡ held_at job starts t → kept ≡ filter (unfinished job (suc t)) (held_at job starts t) → StateAt job starts t old
    → AfterPass job false (t + 1) held old mid → AfterPass job true (t + 1) kept mid new → StateAt job starts (t + 1) new
unfolding value_at
state_next {job} {starts} t {held} {kept} {old} {mid} {new} lasting is rest s g h = record { room = rw (h.size, g.size) s.room; value = value }
  where
    value : (f : ℕ) → f < fluents job → get_or new f 0 ≡ value_at job starts (t + 1) f
    value f l =
        h.value f l
        ∙ any-gives (affects job f) unknown (get_or mid f 0) kept
        ∙ rw (g.value f l, s.value f l, add-one t, is, rest) (next_held job t f (value_at job starts t f) lasting)

-- one start, by the tables of durations and effects
pub finish-tabled : {job durations : List ℕ} → Durations job durations → (s : ℕ) → start_action s < actions job → tabled_finish durations s ≡ finish job s
finish-tabled d s h = rw (d.entry (start_action s) h)

pub start_applied : {job effects old new : List ℕ} (hiding : Bool) (t s : ℕ) → Effects job effects → start_action s < actions job → acts job hiding t s ≡ true
    → Mapped (fluents job) (changed_by effects (start_action s) hiding) old new → AfterPass job hiding t (s ∷ []) old new
start_applied {job} hiding t s e h q m =
    overlaid_hit (fluents job) (acts job hiding t) (affects job) (leaves job hiding) s q m.size
    (λ f l. rw (← e.entry (start_action s) f h l) (m.value f l))

-- of starts that can be walked, the last, and those before it
module _ {job durations effects starts : List ℕ} (before : List ℕ) (s : ℕ) (e : starts ≡ before ++ (s ∷ [])) (w : Walkable job durations effects starts) where
  pub walkable_last : Walkable job durations effects (s ∷ [])
  walkable_last = record { well = w.well; tables = w.tables; named = record { action = one } }
    where
      one : (k : ℕ) → k < 1 → start_action (get_or (s ∷ []) k 0) < actions job
      one zero m = rw (e, get_or-append_seam before s [] 0) at (w.named.action (length before) (rw (e, length-append) (omega arith)))
      one (suc k) m = absurd (omega arith)

  pub walkable_before : Walkable job durations effects before
  walkable_before = record {
    well = w.well;
    tables = w.tables;
    named = record { action = λ i l. rw (e, get_or-append before (s ∷ []) 0 i l) at (w.named.action i (rw (e, length-append) (omega arith))) };
  }
