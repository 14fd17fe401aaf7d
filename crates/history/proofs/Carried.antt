-- A walk of the states from one moment to the next: the list of starts in hand, and the state. Assumes nothing.
use mathlib.Core.Bool.{Bool, true, false}
use mathlib.Core.List.{List, ◌++◌}
use mathlib.Core.Path.{◌≡◌, sym, ap, ◌∙◌}
use Prim.Native.Nat.{ℕ, suc, ◌+◌, ◌≤◌, ◌<◌}
use native.Mathlib.Numerals.{add-one}
use native.Mathlib.Omega.{arith}
use borrow.Author.Tests.{ne_eqb}
use lib.ListN.{length, get_or, take, length-append}
use lib.Seq.{sets, length-sets, length-take-le, take-take, take_at}
use Rattle.words.specs.Fields.{start_moment, start_action}
use Rattle.words.specs.Scan.{filter}
use Rattle.words.proofs.Copies.{sets_front}
use Rattle.words.proofs.Filter.{filter-agree, each_filter, filter-apart}
use Rattle.words.proofs.Lists.{each_of, each_at, each_map}
use Rattle.job.specs.Code.WellFormed.{WellFormed}
use Rattle.job.specs.Parts.{actions, duration}
use Rattle.history.specs.Actions.{in_hand}
use Rattle.history.specs.Held.{held_at, begins_at, starting_at, unfinished, Lasting, Ascending, TimedBy, HeldList}
use Rattle.history.specs.Code.Tables.{Durations, Named, Walkable}
use Rattle.history.specs.Code.Held.{unfinished_by, Filtered, Carried}
use Rattle.history.specs.Code.Passes.{AfterPass}
use Rattle.history.proofs.Held.{in_hand-true, held_next}
use Rattle.history.proofs.Moments.{state_next}

-- each start lasts, as long as the table of durations says
pub each_lasts : {job S : List ℕ} → WellFormed job → Named job S → Lasting job S
each_lasts {job} {S} w n = each_of S (λ i l. w.lasting _ (n.action i l))

pub each_timed : {job durations S : List ℕ} → Durations job durations → Named job S → TimedBy job durations S
each_timed {S = S} d n = each_of S (λ i l. d.entry _ (n.action i l))

-- starts that pass a test name actions of the job as the others do
named-filter : {job S : List ℕ} (test : ℕ → Bool) → Named job S → Named job (filter test S)
named-filter {job} {S} test n = record { action = each_at {P = λ s. start_action s < actions job} (each_filter test (each_of S n.action)) }

-- the list at moment t: how many words it has, that they name actions of the job, and that there is room for the starts of the next moment
module _ {job S : List ℕ} {t : ℕ} {held : List ℕ} {count : ℕ} (h : HeldList job S t held count) where
  pub list_count : count ≡ length (held_at job S t)
  list_count = sym (length-take-le count held h.inside) ∙ ap length h.words

  pub list_named : Named job S → Named job (take count held)
  list_named n = rw h.words (named-filter (in_hand job t) n)

  pub list_room : count + length (starting_at S (t + 1)) ≤ length S
  list_room =
      rw list_count
      (filter-apart (in_hand job t) (begins_at (t + 1)) (λ s e. ne_eqb (start_moment s) (t + 1) (λ z. omega (arith, (in_hand-true job t s e).0))) S)

-- the list at the next moment: those of the list that do not finish are kept, and the starts that begin then are written behind them
module _ {job : List ℕ} (durations : List ℕ) {S : List ℕ} {t : ℕ} {held : List ℕ} {count : ℕ} (timed : TimedBy job durations S) (lasting : Lasting job S)
    (ascends : Ascending S) (h : HeldList job S t held count) {n : ℕ} {kept : List ℕ} (f : Filtered (unfinished_by durations (t + 1)) count held n kept) where
  same_finish : (s : ℕ) → get_or durations (start_action s) 0 ≡ duration job (start_action s) → unfinished_by durations (t + 1) s ≡ unfinished job (suc t) s
  same_finish s e = rw (add-one t, e)

  kept_held : take n kept ≡ filter (unfinished job (suc t)) (held_at job S t)
  kept_held = f.words ∙ rw h.words (filter-agree (unfinished_by durations (t + 1)) (unfinished job (suc t)) (each_map same_finish (each_filter (in_hand job t) timed)))

  pub list_next : {starting : List ℕ} → starting ≡ starting_at S (t + 1) → n + length starting ≤ length kept → HeldList job S (t + 1) (sets kept n starting) (n + length starting)
  list_next {starting} begin room = record {
    inside = rw (length-sets kept n starting) room;
    words = sets_front kept starting n room ∙ rw (kept_held, begin, add-one t) (sym (held_next job S t lasting ascends));
  }

-- of that list, the words before the starts that begin then are the starts that hide
module _ {job S : List ℕ} (t : ℕ) {starting : List ℕ} (begin : starting ≡ starting_at S (t + 1)) {held : List ℕ} {all : ℕ} (lasting : Lasting job S)
    (ascends : Ascending S) (h : HeldList job S (t + 1) held all) where
  parts : held_at job S (t + 1) ≡ filter (unfinished job (suc t)) (held_at job S t) ++ starting
  parts = rw (begin, add-one t) (held_next job S t lasting ascends)

  sizes : all ≡ length (filter (unfinished job (suc t)) (held_at job S t)) + length starting
  sizes = list_count h ∙ ap length parts ∙ length-append (filter (unfinished job (suc t)) (held_at job S t)) starting

  module _ (kept : ℕ) (e : kept + length starting ≡ all) where
    pub hiding_first : take kept held ≡ filter (unfinished job (suc t)) (held_at job S t)
    hiding_first =
        sym (take-take kept all held (omega arith))
        ∙ rw (h.words, parts) (take_at (filter (unfinished job (suc t)) (held_at job S t)) starting kept (omega (arith, sizes)))

    -- they can be walked, and the two passes give the state
    pub hiding_walkable : {durations effects : List ℕ} → Walkable job durations effects S → Walkable job durations effects (take kept held)
    hiding_walkable w =
        record { well = w.well; tables = w.tables; named = rw hiding_first (named-filter (unfinished job (suc t)) (named-filter (in_hand job t) w.named)) }

    pub carried_next : {before : List ℕ} {count : ℕ} {old mid new : List ℕ} → Carried job S t before count old → AfterPass job false (t + 1) (take count before) old mid
        → AfterPass job true (t + 1) (take kept held) mid new → Carried job S (t + 1) held all new
    carried_next c g k = record { state = state_next t lasting c.list.words hiding_first c.state g k; list = h }
