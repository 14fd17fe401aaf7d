-- An accepted move leaves a trial that passes, so every trial that moves give passes; its starts are those that were accepted. Assumes nothing.
use mathlib.Core.Bool.{Bool, true, false, cond, true≢false}
use mathlib.Core.List.{List, [], ◌∷◌}
use mathlib.Core.Path.{◌≡◌, refl, sym, ◌∙◌}
use Prim.Native.Nat.{ℕ, ◌+◌, ◌^◌, ◌<◌}
use native.Mathlib.Omega.{arith}
use borrow.Author.Tests.{leb-false, eqb-true, eq-eqb}
use lib.Dec.{eqb, leb, ltb}
use Rattle.words.specs.Fields.{start_action, start_word}
use Rattle.words.specs.Scan.{filter}
use Rattle.words.specs.Lists.{Each, each_none, pairs-none, insert, sorted}
use Rattle.words.proofs.Choices.{cond-when}
use Rattle.words.proofs.Lists.{each_map, none_any}
use Rattle.words.proofs.Insert.{each_insert}
use Rattle.answers.specs.Rows.{row}
use Rattle.answers.proofs.Rows.{or_none, row-none}
use Rattle.job.specs.Parts.{actions, last_moment, duration}
use Rattle.job.specs.Refusal.{job_refusal}
use Rattle.job.specs.Code.WellFormed.{WellFormed}
use Rattle.job.proofs.WellFormed.{well_formed}
use Rattle.history.proofs.Held.{true_in_hand}
use Rattle.starts.proofs.Lawful.{lawful}
use Rattle.moves.specs.Trials.{Trial, Move, Start, On, fresh, busy, trial_refusal, start_refusal, on_refusal, own_refusal, move_refusal, moved, after, played, started, accepted}
use Rattle.moves.specs.Promises.{PlayedPasses, PlayedStarts}
use Rattle.moves.proofs.Passing.{Passing, passes}
use Rattle.moves.proofs.Agree.{at-u, of_a, lasts, agrees}

-- a start that is accepted: there is such an action, and it is not in hand
module _ (job : List ℕ) (T : Trial) (a : ℕ) (e : (start_refusal job T a).number ≡ 0) where
  pub named : a < actions job
  unfolding start_refusal
  named = leb-false _ _ (row-none _ 6 0 (omega arith) (or_none _ _ e).0)

  idle : Each (λ s. busy job T.moment a s ≡ false) T.starts
  unfolding start_refusal
  idle =
      let r7 = (or_none (row (leb (actions job) a) 6 0) _ e).1 in
      let r8 = (or_none (row (ltb (last_moment job) (T.moment + duration job a)) 7 0) _ r7).1 in
      none_any _ T.starts (row-none _ 8 0 (omega arith) (or_none _ _ r8).0)

  -- in a trial that passes it is new, so it has the number of the whole check: none
  module _ (formed : WellFormed job) (h : Passing job T) where
    abbrev w : ℕ
    w = start_word T.moment a

    small : a < 64
    small = omega (arith, formed.few_actions, named)

    words : Each (λ s. s < 2 ^ 32) (insert w T.starts)
    words = each_insert w (omega (arith, formed.few_moments, h.present, small)) h.small

    in_hand_lem : busy job T.moment a w ≡ true
    in_hand_lem =
        let at = at-u job formed T h a small in
        rw (eq-eqb (start_action w) a (of_a job formed T h a small), true_in_hand job T.moment w (omega arith) (omega (arith, lasts job formed T h a small named)))

    new : Each (λ s. s ≡ w → ⊥) T.starts
    new = each_map (λ s free same. true≢false (sym in_hand_lem ∙ rw same at free)) idle

    start_passes : Passing job (moved T (Start a))
    start_passes = record {
      present = h.present;
      past = each_insert w (omega (arith, at-u job formed T h a small)) h.past;
      small = words;
      lawful = (lawful job (insert w T.starts) words).0 (sym (agrees job formed T h a small new) ∙ e);
    }

module _ (job : List ℕ) where
  fresh-passes : Passing job fresh
  fresh-passes = record {
    present = omega arith;
    past = each_none;
    small = each_none;
    lawful = record { words = each_none; order = pairs-none; ends = each_none; apart = pairs-none; agree = pairs-none; inside = each_none; within = λ g l t. omega arith; met = each_none };
  }

  pub move_passes : WellFormed job → (T : Trial) (m : Move) → Passing job T → (own_refusal job T m).number ≡ 0 → Passing job (moved T m)
  unfolding on_refusal
  move_passes formed T (Start a) h e = start_passes job T a e formed h
  move_passes formed T On h e =
      let before : T.moment < last_moment job = leb-false _ _ (row-none (leb (last_moment job) T.moment) 14 0 (omega arith) e) in
      record { present = omega arith; past = each_map (λ s l. omega arith) h.past; small = h.small; lawful = h.lawful }

  own_none : (T : Trial) (m : Move) → (move_refusal job T m).number ≡ 0 → (own_refusal job T m).number ≡ 0
  unfolding move_refusal
  own_none T m e = (or_none (trial_refusal job T) (own_refusal job T m) (or_none (job_refusal job) _ e).1).1

  -- what holds of a trial, and of it moved where no row of the move fits, holds after the move
  pub after-all : (P : Trial → Type 0) (T : Trial) (m : Move) → ((own_refusal job T m).number ≡ 0 → P (moved T m)) → P T → P (after job T m)
  unfolding after
  after-all P T m p q = cond-when P (eqb (move_refusal job T m).number 0) (λ e. p (own_none T m (eqb-true _ 0 e))) (λ e. q)

  after-passes : WellFormed job → (T : Trial) (m : Move) → Passing job T → Passing job (after job T m)
  after-passes formed T m h = after-all (Passing job) T m (move_passes formed T m h) h

  pub played-passing : WellFormed job → (ms : List Move) → Passing job (played job ms)
  unfolding played
  played-passing formed [] = fresh-passes
  played-passing formed (m ∷ ms) = after-passes formed (played job ms) m (played-passing formed ms)

pub played-passes : PlayedPasses
played-passes job good ms = passes job (played job ms) (played-passing job (well_formed job good) ms)

pub played-starts : PlayedStarts
unfolding played accepted sorted after
played-starts job [] = refl
played-starts job (m ∷ ms) = cases m (eqb (move_refusal job (played job ms) m).number 0) (played-starts job ms)
  where
    cases : (m : Move) (t : Bool) → (played job ms).starts ≡ sorted (accepted job ms)
        → (cond t (moved (played job ms) m) (played job ms)).starts ≡ sorted (cond t (started (played job ms) m (accepted job ms)) (accepted job ms))
    cases (Start a) true ih = rw ih
    cases (Start a) false ih = ih
    cases On true ih = ih
    cases On false ih = ih
