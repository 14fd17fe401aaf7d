-- The starts in hand, carried from word to word of a plan's starts: what row 16 is counted over. Assumes nothing.
use mathlib.Core.Bool.{Bool, true, false}
use mathlib.Core.List.{List, [], ◌∷◌, ◌++◌}
use mathlib.Core.Path.{◌≡◌, refl, sym, ◌∙◌}
use Prim.Native.Nat.{ℕ, ◌+◌, ◌≤◌, ◌<◌}
use native.Mathlib.Numerals.{add-one}
use native.Mathlib.Omega.{arith}
use borrow.Author.Tests.{lt-ltb}
use lib.ListN.{length, get_or, take}
use lib.Seq.{get_or-take, length-take-le, take-suc}
use Rattle.std.specs.List.{list_any}
use Rattle.words.specs.Fields.{start_moment, start_action}
use Rattle.words.specs.Lists.{Each, each_none}
use Rattle.words.proofs.Lists.{each_of, each_map, each_with, each_last, pairs-at}
use Rattle.words.proofs.Filter.{filter-agree, filter-hit, each_filter, each_kept}
use Rattle.job.specs.Parts.{actions, duration}
use Rattle.history.specs.Actions.{finish, in_hand}
use Rattle.history.specs.Held.{held_at, unfinished}
use Rattle.history.specs.Code.Held.{unfinished_by, Filtered}
use Rattle.history.proofs.Held.{in_hand-true, true_in_hand, held_later}
use Rattle.history.proofs.Moments.{finish-tabled}
use Rattle.starts.specs.Rows.{group_exceeded}
use Rattle.starts.proofs.Rows.{Tried, tried_start, tried_more}
use Rattle.starts.proofs.StartsFormed.{right_word}
use Rattle.starts.proofs.GroupLimits.{one_taken}
use Rattle.groups.specs.Code.GroupTable.{is_full, Grouped}
use Rattle.groups.specs.declared.Groups.{Groups}
use Rattle.groups.proofs.GroupTable.{some_read}

-- at word i: the row fits no word before it. Those in hand at moment t are the first `count` words of a list; no word before i is later than t,
-- and none from i on earlier.
pub record Carrying (job starts : List ℕ) (held : List ℕ) (count t i : ℕ) : Type 0 where
  pub tried : Tried 16 (group_exceeded job starts) (length starts) i
  pub few : count ≤ i
  pub words : take count held ≡ held_at job (take i starts) t
  pub past : Each (λ s. start_moment s ≤ t) (take i starts)
  pub coming : (k : ℕ) → i ≤ k → k < length starts → t ≤ start_moment (get_or starts k 0)

module _ {job durations starts : List ℕ} {groups : Groups} (given : Grouped job durations starts groups) where
  pub carrying_none : (held : List ℕ) → Carrying job starts held 0 0 0
  carrying_none held = record {
    tried = tried_start;
    few = omega arith;
    words = refl;
    past = each_none;
    coming = λ k l m. omega arith;
  }

  -- the starts before word i name actions of the job, so that the table of durations tells when they finish
  named-upto : (i : ℕ) → i ≤ length starts → Each (λ s. start_action s < actions job) (take i starts)
  named-upto i l = each_of (take i starts) named
    where
      named : (k : ℕ) → k < length (take i starts) → start_action (get_or (take i starts) k 0) < actions job
      named k m =
          let size = length-take-le i starts l in
          rw (get_or-take i starts k 0 (omega arith)) (right_word given.timed.words k (omega arith)).action

  tabled : (u s : ℕ) → start_action s < actions job → unfinished_by durations u s ≡ unfinished job u s
  tabled u s l = rw (finish-tabled given.timed.lasts s l)

  module _ {held : List ℕ} {count t i : ℕ} (old : Carrying job starts held count t i) (inside : i < length starts) where
    abbrev s : ℕ
    s = get_or starts i 0

    pub unfinished-yet : Each (λ s. unfinished_by durations t s ≡ true) (take count held)
    unfinished-yet = rw old.words (each_with here (each_kept (in_hand job t) (take i starts)) (each_filter (in_hand job t) (named-upto i (omega arith))))
      where
        here : (s : ℕ) → in_hand job t s ≡ true → start_action s < actions job → unfinished_by durations t s ≡ true
        here s e l = tabled t s l ∙ lt-ltb t (finish job s) (in_hand-true job t s e).1

    -- at the moment of word i, those that have not finished by then
    module _ {n : ℕ} {kept : List ℕ} (f : Filtered (unfinished_by durations (start_moment (get_or starts i 0))) count held n kept) where
      pub kept_in_hand : take n kept ≡ held_at job (take i starts) (start_moment (get_or starts i 0))
      kept_in_hand =
          f.words
          ∙ rw old.words
          (filter-agree (unfinished_by durations (start_moment s)) (unfinished job (start_moment s)) (each_map (tabled (start_moment s)) (each_filter (in_hand job t) (named-upto i (omega arith))))
          ∙ held_later job (old.coming i (omega arith) inside) old.past)

      lasts : 0 < duration job (start_action (get_or starts i 0))
      lasts = given.timed.formed.lasting (start_action (get_or starts i 0)) (right_word given.timed.words i inside).action

      -- row 16 on word i, counted over them
      pub full_at : {a : ℕ} → a ≡ start_action (get_or starts i 0) → {r : Bool} → r ≡ list_any (is_full (take n kept) a) groups.all
          → group_exceeded job starts i ≡ r
      unfolding group_exceeded
      full_at ea er = sym (er ∙ some_read given.table s lasts (λ group. one_taken job group starts i inside) kept_in_hand ea)

      -- word i joins them
      pub carrying_more : {new : List ℕ} {count' : ℕ} → count' ≡ n + 1 → take count' new ≡ take n kept ++ (get_or starts i 0 ∷ []) → group_exceeded job starts i ≡ false
          → Carrying job starts new count' (start_moment (get_or starts i 0)) (i + 1)
      carrying_more more joined clear = record {
        tried = tried_more old.tried inside clear;
        few = omega (arith, more, f.few, old.few);
        words =
            joined
            ∙ rw kept_in_hand
            (sym (filter-hit (in_hand job (start_moment s)) starts i inside (true_in_hand job (start_moment s) s (omega arith) (omega (arith, lasts)))));
        past = rw (add-one i, take-suc starts i 0 inside) (each_last s (each_map (λ v l. omega (arith, old.coming i (omega arith) inside)) old.past) (omega arith));
        coming = λ k l m. pairs-at given.ascends k i (omega arith) m;
      }
