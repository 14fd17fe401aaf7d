-- The calls on lent words do what the moves do: the words say the trial that the moves give. Assumes nothing.
use mathlib.Core.Bool.{Bool, true, false, cond}
use mathlib.Core.List.{List, [], ◌∷◌, ◌++◌}
use mathlib.Core.Path.{◌≡◌, refl, ap, sym, ◌∙◌}
use Prim.Native.Nat.{ℕ, ◌≤◌}
use native.Mathlib.Nat.{le_trans}
use native.Mathlib.Omega.{arith}
use borrow.Author.Tests.{eq-eqb, le-ltb}
use lib.Dec.{eqb}
use lib.ListN.{length, take, drop, length-append, length-take}
use lib.Seq.{take-take, take-append_seam, length-take-le, length_front}
use Rattle.words.specs.Lists.{first_words}
use Rattle.words.proofs.Wide.{room_least}
use Rattle.words.proofs.Lists.{first_words-take}
use Rattle.answers.specs.declared.Answer.TheVariants.{Accepted, Refused}
use Rattle.job.specs.Parts.{head_word}
use Rattle.job.specs.Refusal.{job_refusal}
use Rattle.job.proofs.WellFormed.{well_formed}
use Rattle.moves.specs.Trials.{Trial, Move, fresh, move_refusal, moved, after, played}
use Rattle.moves.specs.Calls.{trial_words, trial_in, begin_answer, move_answer, shown_facts, show_answer, handed_back, called_words}
use Rattle.moves.specs.Promises.{CalledSay, ShowAccepts}
use Rattle.moves.proofs.Passing.{lawful_few}
use Rattle.moves.proofs.Played.{played-passing, played-passes}

-- the first words of a list in front of others are its own
first_of : (S rest : List ℕ) → length S ≤ 4096 → first_words (length S) (take 4096 (S ++ rest)) ≡ S
first_of S rest few =
    first_words-take (length S) (take 4096 (S ++ rest)) (rw (length-take 4096 (S ++ rest), length-append S rest) (omega arith))
    ∙ take-take (length S) 4096 (S ++ rest) few ∙ take-append_seam S rest

module _ (job : List ℕ) (good : (job_refusal job).number ≡ 0) (words : List ℕ) (room : 4098 ≤ length words) where
  -- words as long as those lent, which say the trial T
  record Says (ws : List ℕ) (T : Trial) : Type 0 where
    pub size : length ws ≡ length words
    pub trial : trial_in ws ≡ T

  put : (T : Trial) → length T.starts ≤ 4096 → (ws : List ℕ) → length ws ≡ length words → Says (trial_words T ++ drop (length (trial_words T)) ws) T
  put T few ws size = record {
    size = length_front ws (trial_words T) (length (trial_words T)) (sym (length-take-le (length (trial_words T)) ws (omega arith))) ∙ size;
    trial = rw (first_of T.starts (drop (length (trial_words T)) ws) few);
  }

  said_begin : Says (called_words job words []) (played job [])
  unfolding called_words played begin_answer
  said_begin = rw (eq-eqb (job_refusal job).number 0 good, le-ltb (length words) 4098 room) (put fresh (omega arith) words refl)

  said_move : (m : Move) (ms : List Move) → Says (called_words job words ms) (played job ms) → Says (called_words job words (m ∷ ms)) (played job (m ∷ ms))
  unfolding called_words played move_answer after
  said_move m ms h =
      let T = played job ms in
      let ws = called_words job words ms in
      let few = lawful_few (played-passing job (well_formed job good) (m ∷ ms)).small (played-passing job (well_formed job good) (m ∷ ms)).lawful in
      rw (eq-eqb (job_refusal job).number 0 good, le-ltb (length ws) 4098 (omega (arith, h.size)), h.trial)
      (cases T ws (eqb (move_refusal job T m).number 0) h few)
    where
      cases : (T : Trial) (ws : List ℕ) (t : Bool) → Says ws T → length (cond t (moved T m) T).starts ≤ 4096
          → Says (handed_back (cond t (Accepted 0 0) (Refused (move_refusal job T m).number (move_refusal job T m).position 0)) (cond t (moved T m) T) ws) (cond t (moved T m) T)
      cases T ws true h few = put (moved T m) few ws h.size
      cases T ws false h few = h

  said : (ms : List Move) → Says (called_words job words ms) (played job ms)
  said [] = said_begin
  said (m ∷ ms) = said_move m ms (said ms)

pub called_say : CalledSay
called_say job good words room ms = (said job good words room ms).trial

pub show_accepts : ShowAccepts
unfolding show_answer
show_accepts job good words room ms buffer l =
    let h = said job good words room ms in
    rw (
      le-ltb buffer 4096 (le_trans (room_least (head_word job)) l),
      eq-eqb (job_refusal job).number 0 good,
      le-ltb buffer _ l,
      le-ltb (length (called_words job words ms)) 4098 (omega (arith, h.size)),
      h.trial,
      eq-eqb _ 0 (played-passes job good ms),
    )
    (ap (λ (T : Trial). Accepted (length (shown_facts job T)) 0) h.trial)
