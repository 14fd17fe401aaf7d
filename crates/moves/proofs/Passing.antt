-- A trial that passes the tests, part by part. Assumes nothing.
use mathlib.Core.Bool.{Bool, true, false, ◌||◌, true≢false}
use mathlib.Core.List.{List}
use mathlib.Core.Path.{◌≡◌, refl, sym, ◌∙◌}
use Prim.Native.Nat.{ℕ, ◌^◌, ◌<◌, ◌≤◌}
use native.Mathlib.Omega.{arith}
use borrow.Author.Tests.{ltb-false, le-ltb}
use lib.Dec.{ltb}
use lib.ListN.{length}
use Rattle.words.specs.Fields.{start_moment}
use Rattle.words.specs.Scan.{any}
use Rattle.words.specs.Lists.{Each}
use Rattle.words.proofs.Lists.{each_map, small_at, any_none, none_any}
use Rattle.answers.specs.Rows.{row, refusal_at}
use Rattle.answers.proofs.Rows.{or_none, row-none, at-number}
use Rattle.job.specs.Parts.{last_moment}
use Rattle.starts.specs.Rows.{starts_refusal}
use Rattle.starts.specs.Lawful.{Lawful}
use Rattle.starts.proofs.StartsFormed.{words_formed, few_words}
use Rattle.starts.proofs.Lawful.{lawful}
use Rattle.moves.specs.Trials.{Trial, outside, trial_refusal}

-- a trial that passes, part by part; words are of 32 bits
pub record Passing (job : List ℕ) (T : Trial) : Type 0 where
  pub present : T.moment ≤ last_moment job
  pub past : Each (λ s. start_moment s ≤ T.moment) T.starts
  pub small : Each (λ s. s < 2 ^ 32) T.starts
  pub lawful : Lawful job T.starts

or_false : (a b : Bool) → (a || b) ≡ false → (a ≡ false) × (b ≡ false)
or_false true b e = absurd (true≢false e)
or_false false b e = (refl, e)

-- there are 4,096 lawful starts at most
pub lawful_few : {job S : List ℕ} → Each (λ s. s < 2 ^ 32) S → Lawful job S → length S ≤ 4096
lawful_few {job} {S} small h = few_words job S (small_at small) (length S) (words_formed h.words h.order).right

-- a trial inside its bounds
pub record InBounds (job : List ℕ) (T : Trial) : Type 0 where
  pub few : length T.starts ≤ 4096
  pub present : T.moment ≤ last_moment job
  pub past : Each (λ s. start_moment s ≤ T.moment) T.starts

module _ (job : List ℕ) where
  pub in_bounds : (T : Trial) → outside job T ≡ false → InBounds job T
  in_bounds T e =
      let many : Bool = ltb 4096 (length T.starts) in
      let high : Bool = ltb (last_moment job) T.moment in
      let late : Bool = any (λ s. ltb T.moment (start_moment s)) T.starts in
      let p = or_false (many || high) late e in
      let q = or_false many high p.0 in
      record {
        few = ltb-false 4096 (length T.starts) q.0;
        present = ltb-false (last_moment job) T.moment q.1;
        past = each_map (λ s. ltb-false T.moment (start_moment s)) (none_any (λ s. ltb T.moment (start_moment s)) T.starts p.1);
      }

  -- the rows of a trial that passes them
  pub bounds : (T : Trial) → (trial_refusal job T).number ≡ 0 → InBounds job T
  unfolding trial_refusal
  bounds T e =
      in_bounds T (row-none (outside job T) 14 0 (omega arith) (or_none (row (outside job T) 14 0) (refusal_at 0 (starts_refusal job T.starts).number) e).0)

  pub passing : (T : Trial) → Each (λ s. s < 2 ^ 32) T.starts → (trial_refusal job T).number ≡ 0 → Passing job T
  unfolding trial_refusal
  passing T small e =
      let rows = or_none (row (outside job T) 14 0) (refusal_at 0 (starts_refusal job T.starts).number) e in
      record {
        present = (bounds T e).present;
        past = (bounds T e).past;
        small = small;
        lawful = (lawful job T.starts small).0 (sym (at-number 0 (starts_refusal job T.starts).number) ∙ rows.1);
      }

  pub passes : (T : Trial) → Passing job T → (trial_refusal job T).number ≡ 0
  unfolding trial_refusal
  passes T h =
      rw (
        le-ltb 4096 (length T.starts) (lawful_few h.small h.lawful),
        le-ltb (last_moment job) T.moment h.present,
        any_none (λ s. ltb T.moment (start_moment s)) (each_map (λ s. le-ltb T.moment (start_moment s)) h.past),
      )
      (at-number 0 (starts_refusal job T.starts).number ∙ (lawful job T.starts h.small).1 h.lawful)
