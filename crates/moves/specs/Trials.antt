-- A trial (a partial plan): its moment and its starts, ascending; the two moves; the refusal of each; the trial after moves.
use Rattle.std.specs.Prelude.{Bool, not, cond, ◌&&◌, ◌||◌, List, [], ◌∷◌, ℕ, ◌+◌, eqb, leb, ltb, length}
use Rattle.words.specs.Fields.{start_moment, start_action, start_word}
use Rattle.words.specs.Scan.{any}
use Rattle.words.specs.Lists.{insert}
use Rattle.answers.specs.declared.Refusal.{Refusal}
use Rattle.answers.specs.Rows.{row, first_row, refusal_at}
use Rattle.job.specs.Parts.{actions, last_moment, duration}
use Rattle.job.specs.Refusal.{job_refusal}
use Rattle.history.specs.Actions.{in_hand}
use Rattle.starts.specs.Rows.{clashing, may_start, over_limit, unmet_at, starts_refusal}

pub record Trial : Type 0 where
  pub moment : ℕ
  pub starts : List ℕ

-- one move starts an action now, the other goes on one moment
pub data Move : Type 0 where
  Start : ℕ → Move
  On : Move

-- a trial begins at moment 0 with no starts
abbrev pub fresh : Trial
fresh = record { moment = 0; starts = [] }

-- more than 4,096 starts, a moment above n, or a word of its starts whose bits 11..6 exceed the trial's moment
abbrev pub outside : List ℕ → Trial → Bool
outside job T =
    ltb 4096 (length T.starts) || ltb (last_moment job) T.moment || any (λ s. ltb T.moment (start_moment s)) T.starts

-- a trial that no moves could give: 14, or the number that check gives its starts, at position 0
unfoldable pub trial_refusal : List ℕ → Trial → Refusal
trial_refusal job T = first_row (row (outside job T) 14 0 ∷ refusal_at 0 (starts_refusal job T.starts).number ∷ [])

-- a start of action a that is in hand at moment u
abbrev pub busy : List ℕ → ℕ → ℕ → ℕ → Bool
busy job u a s = eqb (start_action s) a && in_hand job u s

-- starting action a now: 6, no such action; 7, it would end after n; 8, it is in hand, also where it was started at this moment; 9, it clashes
-- with a start of the trial, both in hand at some moment, also with one of this moment that has a higher action number; 15, it is outside its
-- shift windows; 16, with it a group of its action exceeds its limit now, counted with all in hand, whatever their action numbers; 10, its needs
-- are not known now
abbrev pub new_start_rows : List ℕ → Trial → ℕ → List Refusal
new_start_rows job T a =
    row (leb (actions job) a) 6 0
    ∷ row (ltb (last_moment job) (T.moment + duration job a)) 7 0
    ∷ row (any (busy job T.moment a) T.starts) 8 0
    ∷ row (any (λ s. clashing job s (start_word T.moment a)) T.starts) 9 0
    ∷ row (not (may_start job T.moment a)) 15 0
    ∷ row (over_limit job (start_word T.moment a ∷ T.starts) (start_word T.moment a)) 16 0
    ∷ row (unmet_at job T.starts T.moment a) 10 0
    ∷ []

unfoldable pub start_refusal : List ℕ → Trial → ℕ → Refusal
start_refusal job T a = first_row (new_start_rows job T a)

-- going on: 14 at moment n
unfoldable pub on_refusal : List ℕ → Trial → Refusal
on_refusal job T = row (leb (last_moment job) T.moment) 14 0

abbrev pub own_refusal : List ℕ → Trial → Move → Refusal
own_refusal job T (Start a) = start_refusal job T a
own_refusal job T On = on_refusal job T

-- the refusal of a move: the job's, with its position; then the trial's, then the move's own, at position 0
unfoldable pub move_refusal : List ℕ → Trial → Move → Refusal
move_refusal job T m = first_row (job_refusal job ∷ trial_refusal job T ∷ own_refusal job T m ∷ [])

-- the trial after a move that is accepted; after any move: a refused one changes nothing
abbrev pub moved : Trial → Move → Trial
moved T (Start a) = record { moment = T.moment; starts = insert (start_word T.moment a) T.starts }
moved T On = record { moment = T.moment + 1; starts = T.starts }

unfoldable pub after : List ℕ → Trial → Move → Trial
after job T m = cond (eqb (move_refusal job T m).number 0) (moved T m) T

-- after a list of moves from a fresh trial, the latest move first
unfoldable pub played : List ℕ → List Move → Trial
played job [] = fresh
played job (m ∷ ms) = after job (played job ms) m

-- the starts that those moves had accepted, the latest first
abbrev pub started : Trial → Move → List ℕ → List ℕ
started T (Start a) ws = start_word T.moment a ∷ ws
started T On ws = ws

unfoldable pub accepted : List ℕ → List Move → List ℕ
accepted job [] = []
accepted job (m ∷ ms) =
    cond (eqb (move_refusal job (played job ms) m).number 0) (started (played job ms) m (accepted job ms)) (accepted job ms)
