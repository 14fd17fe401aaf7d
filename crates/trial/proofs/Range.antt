-- Whatever the job and the words, the answers of the four calls fit their fields. Assumes nothing.
use mathlib.Core.Bool.{not}
use mathlib.Core.List.{List, ◌∷◌}
use Prim.Native.Nat.{ℕ, ◌+◌}
use native.Mathlib.Omega.{arith}
use lib.Dec.{leb, ltb}
use lib.ListN.{length}
use Rattle.words.specs.Fields.{fact_room, start_word}
use Rattle.words.specs.Scan.{any}
use Rattle.words.proofs.Wide.{room_most}
use Rattle.answers.specs.Rows.{row, refusal_at}
use Rattle.answers.specs.Code.Packed.{InRange}
use Rattle.answers.proofs.Rows.{or_none}
use Rattle.answers.proofs.Range.{Fitting, or_fits, row_fits, at-fits, answer_fits}
use Rattle.job.specs.Parts.{head_word, actions, last_moment, duration}
use Rattle.job.specs.Refusal.{job_refusal}
use Rattle.job.proofs.Fits.{job_fits}
use Rattle.job.proofs.WellFormed.{well_formed}
use Rattle.starts.specs.Rows.{clashing, may_start, over_limit, unmet_at, starts_refusal}
use Rattle.starts.proofs.RefusalFits.{starts_number}
use Rattle.facts.proofs.Lists.{upto_fit}
use Rattle.theory.specs.Answers.{buffer_refusal, fact_room_refusal}
use Rattle.moves.specs.Trials.{Trial, Move, Start, On, outside, busy, trial_refusal, start_refusal, on_refusal, own_refusal, move_refusal}
use Rattle.moves.specs.Calls.{trial_in, trial_room_refusal, begin_answer, move_answer, show_answer}
use Rattle.moves.proofs.Passing.{bounds}

room_fits : (room : ℕ) → Fitting (trial_room_refusal room)
room_fits room = row_fits (ltb room 4098) 14 0 (omega arith) (omega arith)

trial_fits : (job : List ℕ) (T : Trial) → Fitting (trial_refusal job T)
unfolding trial_refusal
trial_fits job T =
    or_fits (row (outside job T) 14 0) (refusal_at 0 (starts_refusal job T.starts).number) (row_fits (outside job T) 14 0 (omega arith) (omega arith))
    (at-fits (starts_number job T.starts) (omega arith))

own_fits : (job : List ℕ) (T : Trial) (m : Move) → Fitting (own_refusal job T m)
unfolding start_refusal on_refusal
own_fits job T (Start a) =
    or_fits _ _ (row_fits (leb (actions job) a) 6 0 (omega arith) (omega arith))
    (or_fits _ _ (row_fits (ltb (last_moment job) (T.moment + duration job a)) 7 0 (omega arith) (omega arith))
    (or_fits _ _ (row_fits (any (busy job T.moment a) T.starts) 8 0 (omega arith) (omega arith))
    (or_fits _ _ (row_fits (any (λ s. clashing job s (start_word T.moment a)) T.starts) 9 0 (omega arith) (omega arith))
    (or_fits _ _ (row_fits (not (may_start job T.moment a)) 15 0 (omega arith) (omega arith))
    (or_fits _ _ (row_fits (over_limit job (start_word T.moment a ∷ T.starts) (start_word T.moment a)) 16 0 (omega arith) (omega arith))
    (row_fits (unmet_at job T.starts T.moment a) 10 0 (omega arith) (omega arith)))))))
own_fits job T On = row_fits (leb (last_moment job) T.moment) 14 0 (omega arith) (omega arith)

pub begin_range : (room : ℕ) (job : List ℕ) → InRange (begin_answer room job)
unfolding begin_answer
begin_range room job = answer_fits _ 0 0 (or_fits (job_refusal job) (trial_room_refusal room) (job_fits job) (room_fits room)) (λ e. (omega arith, omega arith))

pub move_range : (job words : List ℕ) (m : Move) → InRange (move_answer job words m)
unfolding move_answer move_refusal
move_range job words m =
    answer_fits _ 0 0
    (or_fits (job_refusal job) _ (job_fits job)
    (or_fits (trial_room_refusal (length words)) _ (room_fits (length words))
    (or_fits (job_refusal job) _ (job_fits job)
    (or_fits (trial_refusal job (trial_in words)) (own_refusal job (trial_in words) m) (trial_fits job (trial_in words)) (own_fits job (trial_in words) m)))))
    (λ e. (omega arith, omega arith))

pub show_range : (room : ℕ) (job words : List ℕ) → InRange (show_answer room job words)
unfolding show_answer
show_range room job words =
    answer_fits _ _ 0
    (or_fits (buffer_refusal room) _ (row_fits (ltb room 4096) 12 0 (omega arith) (omega arith))
    (or_fits (job_refusal job) _ (job_fits job)
    (or_fits (fact_room_refusal room job) _ (row_fits (ltb room (fact_room (head_word job))) 12 0 (omega arith) (omega arith))
    (or_fits (trial_room_refusal (length words)) (trial_refusal job (trial_in words)) (room_fits (length words)) (trial_fits job (trial_in words))))))
    (λ e.
    let late = (or_none (buffer_refusal room) _ e).1 in
    let jobs = or_none (job_refusal job) _ late in
    let formed = well_formed job jobs.0 in
    let later = (or_none (fact_room_refusal room job) _ jobs.1).1 in
    let trial = (or_none (trial_room_refusal (length words)) (trial_refusal job (trial_in words)) later).1 in
    let few = upto_fit job (trial_in words).starts formed (trial_in words).moment (omega (arith, (bounds job (trial_in words) trial).present, formed.few_moments)) in
    (omega (arith, few, room_most (head_word job)), omega arith))
