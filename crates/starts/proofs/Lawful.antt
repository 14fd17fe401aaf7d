-- No row fits exactly lawful starts. Assumes nothing.
use mathlib.Core.Bool.{not}
use mathlib.Core.List.{List}
use mathlib.Core.Path.{refl, ap}
use Prim.Native.Nat.{ℕ, ◌^◌, ◌<◌}
use borrow.Author.Tests.{not-false, ltb-false, le-ltb}
use lib.ListN.{length}
use Rattle.words.specs.Lists.{Each}
use Rattle.job.specs.Parts.{limit_of, in_group}
use Rattle.starts.specs.Rows.{ends_late, in_hand_already, clashes, outside_windows, over_limit, group_exceeded, needs_unmet, start_rows, starts_refusal}
use Rattle.starts.specs.Lawful.{Lawful, LawfulExactly}
use Rattle.words.proofs.AnyBelow.{some_none, none_below}
use Rattle.words.proofs.Lists.{each_of, each_at, small_at, pairs_of, pairs-at}
use Rattle.starts.proofs.Rows.{NoneFits, no_row, and_row, rows_none, none_rows}
use Rattle.starts.proofs.StartsFormed.{is_start-at, words_formed, words_ascend, ascending}
use Rattle.starts.proofs.GroupLimits.{rows_keep, keeps_rows}

module _ (job starts : List ℕ) where
  from : Each (λ s. s < 2 ^ 32) starts → NoneFits (length starts) (start_rows job starts) → Lawful job starts
  unfolding ends_late in_hand_already clashes outside_windows over_limit group_exceeded needs_unmet
  from small (and_row row6 (and_row row7 (and_row row8 (and_row row9 (and_row row15 (and_row row16 (and_row row10 no_row))))))) = record {
    words = each_of starts (λ i l. is_start-at job starts i (row6 i l));
    order = pairs_of starts (words_ascend (record { right = row6 }));
    ends = each_of starts (λ i l. ltb-false _ _ (row7 i l));
    apart = pairs_of starts (λ i j l m. none_below _ i (row8 i m) j l);
    agree = pairs_of starts (λ i j l m. none_below _ i (row9 i m) j l);
    inside = each_of starts (λ i l. not-false _ (row15 i l));
    within = λ g l.
        rows_keep job (in_group job g) (limit_of job g) starts (ascending (record { right = row6 }) (small_at small)) (λ i m. none_below _ 8 (row16 i m) g l);
    met = each_of starts row10;
  }

  to : Lawful job starts → NoneFits (length starts) (start_rows job starts)
  unfolding ends_late in_hand_already clashes outside_windows over_limit group_exceeded needs_unmet
  to h =
      and_row (words_formed h.words h.order).right
      (and_row (λ i l. le-ltb _ _ (each_at h.ends i l))
      (and_row (λ i l. some_none _ i (λ j m. pairs-at h.apart i j m l))
      (and_row (λ i l. some_none _ i (λ j m. pairs-at h.agree i j m l))
      (and_row (λ i l. ap not (each_at h.inside i l))
      (and_row (λ i l. some_none _ 8 (λ g m. keeps_rows job (in_group job g) (limit_of job g) starts (h.within g m) i l))
      (and_row (each_at h.met)
      no_row))))))

pub lawful : LawfulExactly
unfolding starts_refusal
lawful job starts small = (λ e. from job starts small (rows_none (start_rows job starts) refl e), λ h. none_rows (to job starts h))
