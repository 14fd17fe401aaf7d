-- What is shown of a trial: the filler's facts for its starts, up to its moment; no move takes one back. Assumes nothing.
use mathlib.Core.List.{List, [], ◌∷◌, ◌++◌, append_assoc, append-nil}
use mathlib.Core.Path.{◌≡◌, sym, ◌∙◌}
use Prim.Native.Nat.{ℕ, ◌+◌, ◌<◌}
use native.Mathlib.Nat.{le_trans}
use native.Mathlib.Omega.{arith}
use borrow.Author.Tests.{eq-eqb, ne_eqb, le-ltb}
use Rattle.words.specs.Fields.{start_word}
use Rattle.words.proofs.Wide.{room_least}
use Rattle.job.specs.Parts.{head_word}
use Rattle.job.specs.Refusal.{job_refusal}
use Rattle.job.specs.Code.WellFormed.{WellFormed}
use Rattle.job.proofs.WellFormed.{well_formed}
use Rattle.facts.specs.Facts.{facts_at}
use Rattle.facts.proofs.Lists.{facts_split, facts_next, facts_before}
use Rattle.starts.specs.Rows.{starts_refusal}
use Rattle.starts.proofs.Lawful.{lawful}
use Rattle.theory.specs.Answers.{fill_refusal, fill_answer}
use Rattle.moves.specs.Trials.{Trial, Move, Start, On, own_refusal, move_refusal, moved, after, played}
use Rattle.moves.specs.Calls.{shown_facts}
use Rattle.moves.specs.Promises.{FillAccepts, ShownAreFilled, RefusedKeeps, Extended, ShownStay}
use Rattle.moves.proofs.Passing.{Passing}
use Rattle.moves.proofs.Agree.{at-u, lasts}
use Rattle.moves.proofs.Played.{named, after-all, played-passing, played-starts}

pub fill_accepts : FillAccepts
unfolding fill_answer fill_refusal
fill_accepts job good ms room l =
    let h = played-passing job (well_formed job good) ms in
    let none : (starts_refusal job (played job ms).starts).number ≡ 0 = (lawful job (played job ms).starts h.small).1 h.lawful in
    rw (le-ltb room 4096 (le_trans (room_least (head_word job)) l), eq-eqb (job_refusal job).number 0 good, le-ltb room _ l, eq-eqb _ 0 (rw (played-starts job ms) at none))

pub shown_are_filled : ShownAreFilled
shown_are_filled job good ms =
    rw (← played-starts job ms) (facts_split job (played job ms).starts (played job ms).moment (played-passing job (well_formed job good) ms).present)

pub refused-keeps : RefusedKeeps
unfolding after
refused-keeps job T m h = rw (ne_eqb (move_refusal job T m).number 0 h)

module _ (job : List ℕ) (good : (job_refusal job).number ≡ 0) where
  formed : WellFormed job
  formed = well_formed job good

  -- an accepted move adds facts at the end, or none
  move_adds : (T : Trial) (m : Move) → Passing job T → (own_refusal job T m).number ≡ 0 → Extended (shown_facts job T) (shown_facts job (moved T m))
  move_adds T (Start a) h e =
      let k = named job T a e in
      let small : a < 64 = omega (arith, formed.few_actions) in
      record {
        rest = [];
        same = rw append-nil (facts_before job (start_word T.moment a) (lasts job formed T h a small k) T.starts T.moment
            (omega (arith, at-u job formed T h a small)));
      }
  move_adds T On h e = record { rest = facts_at job T.starts (T.moment + 1); same = facts_next job T.starts T.moment }

  after-adds : (T : Trial) (m : Move) → Passing job T → Extended (shown_facts job T) (shown_facts job (after job T m))
  after-adds T m h =
      after-all job (λ U. Extended (shown_facts job T) (shown_facts job U)) T m (move_adds T m h) (record { rest = []; same = sym (append-nil _) })

pub shown_stay : ShownStay
unfolding played
shown_stay job good ms [] = record { rest = []; same = sym (append-nil _) }
shown_stay job good ms (m ∷ later) =
    let first = shown_stay job good ms later in
    let then = after-adds job good (played job (later ++ ms)) m (played-passing job (well_formed job good) (later ++ ms)) in
    record { rest = first.rest ++ then.rest; same = then.same ∙ rw (first.same, append_assoc) }
