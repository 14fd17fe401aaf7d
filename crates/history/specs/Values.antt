-- The value of a fluent at a moment. (The values at a moment are the field's state; 'known' is a value other than open.)
use Rattle.std.specs.Prelude.{Bool, cond, ◌&&◌, List, ℕ, zero, suc, eqb}
use Rattle.words.specs.Fields.{kind, unknown, fluent_of, known_value, start_action}
use Rattle.words.specs.Scan.{any, find_or}
use Rattle.job.specs.Parts.{head_word}
use Rattle.history.specs.Actions.{effect, hides, finishes, affects}

-- a word says that fluent f is initially known
abbrev pub lists : ℕ → ℕ → ℕ → Bool
lists head f w = eqb (kind w) 2 && eqb (fluent_of head w) f

-- the value at moment 0: that of the kind 2 word of f, or open
unfoldable pub initially : List ℕ → ℕ → ℕ
initially job f = find_or (lists (head_word job) f) (known_value (head_word job)) unknown job

-- a start hides fluent f at moment t; gives it a value then
abbrev pub hides_fluent : List ℕ → ℕ → ℕ → ℕ → Bool
hides_fluent job t f s = hides job t s && affects job f s

abbrev pub gives_fluent : List ℕ → ℕ → ℕ → ℕ → Bool
gives_fluent job t f s = finishes job t s && affects job f s

abbrev pub given_value : List ℕ → ℕ → ℕ → ℕ
given_value job f s = effect job (start_action s) f

-- the value at moment t > 0, by that at t − 1: open if a start hides the fluent; else what a start that finishes gives; else as it was
unfoldable pub next_value : List ℕ → List ℕ → ℕ → ℕ → ℕ → ℕ
next_value job starts t f old =
    cond (any (hides_fluent job t f) starts) unknown (find_or (gives_fluent job t f) (given_value job f) old starts)

unfoldable pub value_at : List ℕ → List ℕ → ℕ → ℕ → ℕ
value_at job starts zero f = initially job f
value_at job starts (suc t) f = next_value job starts (suc t) f (value_at job starts t f)
