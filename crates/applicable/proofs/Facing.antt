-- When a start that is not later is one of the same action in hand, when it clashes with a new one, and which are counted with it in a group;
-- that starts in hand alone do. Assumes nothing.
use mathlib.Core.Bool.{Bool, true, false, ◌&&◌}
use mathlib.Core.List.{List, ◌∷◌}
use mathlib.Core.Path.{◌≡◌, refl, ap, sym, ◌∙◌}
use Prim.Native.Nat.{ℕ, ◌<◌, ◌≤◌}
use native.Mathlib.Omega.{arith}
use borrow.Author.Tests.{le-leb, lt-ltb}
use lib.Dec.{eqb, ltb}
use lib.ListN.{length, get_or, take}
use Rattle.std.specs.List.{list_any}
use Rattle.std.proofs.lemmas.Grind.{get_or_default_zero}
use Rattle.words.specs.Fields.{start_moment, start_action, start_word}
use Rattle.words.specs.Scan.{any, filter}
use Rattle.words.proofs.Choices.{both_true, same_test}
use Rattle.words.proofs.Filter.{any-filter, each_filter, filter-agree}
use Rattle.words.proofs.Scan.{any-agree}
use Rattle.words.proofs.Lists.{each_at, each_map, each_with}
use Rattle.job.specs.Parts.{actions, last_moment, duration}
use Rattle.job.specs.Code.WellFormed.{WellFormed}
use Rattle.history.specs.Actions.{finish, in_hand}
use Rattle.history.specs.Held.{held_at}
use Rattle.history.specs.Code.Held.{unfinished_by, Filtered}
use Rattle.history.proofs.Held.{in_hand-true}
use Rattle.history.proofs.Moments.{finish-tabled}
use Rattle.starts.specs.Rows.{clash, together, clashing, over_limit}
use Rattle.starts.specs.Code.Given.{Paired}
use Rattle.starts.proofs.GroupLimits.{one_in_front}
use Rattle.starts.proofs.Opposed.{together-later}
use Rattle.starts.proofs.StartsFormed.{word_moment, word_action}
use Rattle.groups.specs.Code.GroupTable.{GroupTable, is_full}
use Rattle.groups.specs.declared.Groups.{Groups}
use Rattle.groups.proofs.GroupTable.{some_read}
use Rattle.moves.specs.Trials.{busy}
use Rattle.applicable.specs.Code.Given.{Facing, FacingAll}

-- the word of a new start
module _ {job : List ℕ} {u a : ℕ} (formed : WellFormed job) (present : u ≤ last_moment job) (new : a < actions job) where
  at-u : start_moment (start_word u a) ≡ u
  at-u = word_moment u a (omega (arith, formed.few_moments)) (omega (arith, formed.few_actions))

  of_a : start_action (start_word u a) ≡ a
  of_a = word_action u a (omega (arith, formed.few_moments)) (omega (arith, formed.few_actions))

  lasts : 0 < duration job (start_action (start_word u a))
  lasts = rw of_a (formed.lasting a new)

module _ {job durations effects : List ℕ} {s u a : ℕ} (given : Facing job durations effects s u a) where
  at-now : start_moment (start_word u a) ≡ u
  at-now = at-u given.tables.formed given.present given.new

  together-new : together job s (start_word u a) ≡ ltb u (finish job s)
  together-new =
      together-later job s (start_word u a) (rw at-now given.past) (omega (arith, lasts given.tables.formed given.present given.new)) (rw at-now given.present) ∙ rw at-now

  pub clashing-now : clashing job s (start_word u a) ≡ (ltb u (finish job s) && clash job (start_action s) a)
  clashing-now = rw (together-new, of_a given.tables.formed given.present given.new)

-- its action and the new one, by what the code has read of them
pub pair_of : {job durations effects : List ℕ} {s u a : ℕ} → Facing job durations effects s u a → {b : ℕ} → b ≡ start_action s → Paired job effects b a
pair_of given e = record { formed = given.tables.formed; makes = given.tables.makes; first = rw e given.action; second = given.new }

-- one of all starts of a plan
pub facing_at : {job durations effects starts : List ℕ} {u a : ℕ} → FacingAll job durations effects starts u a → (i : ℕ) → i < length starts
    → Facing job durations effects (get_or starts i 0) u a
facing_at given i l = record { tables = given.tables; action = each_at given.action i l; past = each_at given.past i l; present = given.present; new = given.new }

-- also of the start that the code has read there
pub facing_read : {job durations effects starts : List ℕ} {u a : ℕ} → FacingAll job durations effects starts u a → {s : ℕ} (i : ℕ) → i < length starts → s ≡ get_or starts i s
    → Facing job durations effects s u a
facing_read {starts} given {s} i l e = rw (e ∙ get_or_default_zero starts i s l) (facing_at given i l)

-- what the code has kept of a list of some starts
pub kept : {test : ℕ → Bool} {starts listed held in_hand : List ℕ} {n count : ℕ} → take n listed ≡ starts → Filtered test n listed count held
    → in_hand ≡ take count held → in_hand ≡ filter test starts
kept {test} all f e = e ∙ f.words ∙ ap (filter test) all

-- of all starts of a plan: only those in hand are of the same action in hand, or clash
module _ {job durations effects starts : List ℕ} {u a : ℕ} (given : FacingAll job durations effects starts u a) where
  pub held_facing : FacingAll job durations effects (filter (unfinished_by durations u) starts) u a
  held_facing = record {
    tables = given.tables;
    action = each_filter (unfinished_by durations u) given.action;
    past = each_filter (unfinished_by durations u) given.past;
    present = given.present;
    new = given.new;
  }

  tabled : (s : ℕ) → start_action s < actions job → unfinished_by durations u s ≡ ltb u (finish job s)
  tabled s k = rw (finish-tabled given.tables.lasts s k)

  pub held_busy : any (busy job u a) (filter (unfinished_by durations u) starts) ≡ any (busy job u a) starts
  held_busy = any-filter (busy job u a) (unfinished_by durations u) starts ∙ any-agree _ _ (each_map same given.action)
    where
      same : (s : ℕ) → start_action s < actions job → (unfinished_by durations u s && busy job u a s) ≡ busy job u a s
      same s k =
          same_test (unfinished_by durations u s && busy job u a s) (busy job u a s) (λ e. (both_true (unfinished_by durations u s) (busy job u a s) e).1)
          (λ e. rw (here (in_hand-true job u s (both_true (eqb (start_action s) a) (in_hand job u s) e).1).1, e))
        where
          here : u < finish job s → unfinished_by durations u s ≡ true
          here l = tabled s k ∙ lt-ltb u (finish job s) l

  pub held_clash : any (λ s. clashing job s (start_word u a)) (filter (unfinished_by durations u) starts) ≡ any (λ s. clashing job s (start_word u a)) starts
  held_clash =
      any-filter (λ s. clashing job s (start_word u a)) (unfinished_by durations u) starts ∙ any-agree _ _ (each_with same given.action given.past)
    where
      same : (s : ℕ) → start_action s < actions job → start_moment s ≤ u → (unfinished_by durations u s && clashing job s (start_word u a)) ≡ clashing job s (start_word u a)
      same s k l = cases (ltb u (finish job s)) refl
        where
          facing : Facing job durations effects s u a
          facing = record { tables = given.tables; action = k; past = l; present = given.present; new = given.new }

          cases : (b : Bool) → ltb u (finish job s) ≡ b → (unfinished_by durations u s && clashing job s (start_word u a)) ≡ clashing job s (start_word u a)
          cases true e = rw (tabled s k, e)
          cases false e = rw (tabled s k, e) (sym (clashing-now facing ∙ rw e))

  -- the unfinished ones are those in hand
  pub held_in_hand : filter (unfinished_by durations u) starts ≡ held_at job starts u
  held_in_hand = filter-agree (unfinished_by durations u) (in_hand job u) (each_with same given.action given.past)
    where
      same : (s : ℕ) → start_action s < actions job → start_moment s ≤ u → unfinished_by durations u s ≡ in_hand job u s
      same s k l = rw (tabled s k, le-leb (start_moment s) u l)

  -- row 16 over them: the code has read r
  pub held_full : {groups : Groups} → GroupTable job groups → {r : Bool} → r ≡ list_any (is_full (filter (unfinished_by durations u) starts) a) groups.all
      → r ≡ over_limit job (start_word u a ∷ starts) (start_word u a)
  held_full table er =
      let formed = given.tables.formed in
      let at = at-u formed given.present given.new in
      er
      ∙ some_read table (start_word u a) (lasts formed given.present given.new) (λ group. one_in_front job group (start_word u a) starts)
      (held_in_hand ∙ rw at) (sym (of_a formed given.present given.new))
