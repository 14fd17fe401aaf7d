-- What an action makes of a fluent, and what a start of it does at a moment.
use Rattle.std.specs.Prelude.{Bool, not, ◌&&◌, List, ℕ, ◌+◌, eqb, leb, ltb}
use Rattle.words.specs.Fields.{unknown, fluent_of, role_of, makes, made_value, start_moment, start_action}
use Rattle.words.specs.Scan.{find_or}
use Rattle.job.specs.Parts.{head_word, duration, laws_of}

-- a law makes fluent f true or false, and which
abbrev pub makes_fluent : ℕ → ℕ → ℕ → Bool
makes_fluent head f w = makes (role_of head w) && eqb (fluent_of head w) f

abbrev pub law_value : ℕ → ℕ → ℕ
law_value head w = made_value (role_of head w)

-- the value that action a makes of fluent f: open where it makes none
unfoldable pub effect : List ℕ → ℕ → ℕ → ℕ
effect job a f = find_or (makes_fluent (head_word job) f) (law_value (head_word job)) unknown (laws_of job a)

-- u + d: the moment at which a start finishes
abbrev pub finish : List ℕ → ℕ → ℕ
finish job s = start_moment s + duration job (start_action s)

-- a start is in hand (in execution) at u ≤ t < u + d, hides (the fluents that it affects are unknown) at u < t < u + d, finishes (its
-- effects take place) at u + d
abbrev pub in_hand : List ℕ → ℕ → ℕ → Bool
in_hand job t s = leb (start_moment s) t && ltb t (finish job s)

abbrev pub hides : List ℕ → ℕ → ℕ → Bool
hides job t s = ltb (start_moment s) t && ltb t (finish job s)

abbrev pub finishes : List ℕ → ℕ → ℕ → Bool
finishes job t s = eqb (finish job s) t

-- a start makes fluent f true or false
abbrev pub affects : List ℕ → ℕ → ℕ → Bool
affects job f s = not (eqb (effect job (start_action s) f) unknown)
