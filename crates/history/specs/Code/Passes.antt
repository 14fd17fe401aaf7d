-- Between functions: a step to the next moment is two passes over starts in hand, from the last to the first: those that finish then, and after
-- that all others, which hide.
use Rattle.std.specs.Prelude.{Bool, not, cond, ◌&&◌, ◌||◌, List, ℕ, ◌+◌, ◌*◌, eqb, get_or}
use Rattle.words.specs.Fields.{unknown}
use Rattle.job.specs.Parts.{fluents}
use Rattle.history.specs.Actions.{finishes, affects}
use Rattle.history.specs.Values.{given_value}
use Rattle.history.specs.Code.Stores.{Overlaid}

-- in either pass to moment t: a start acts; it acts on fluent f; the value that it then leaves
abbrev pub acts : List ℕ → Bool → ℕ → ℕ → Bool
acts job hiding t s = hiding || finishes job t s

abbrev pub acts_on : List ℕ → Bool → ℕ → ℕ → ℕ → Bool
acts_on job hiding t f s = acts job hiding t s && affects job f s

abbrev pub leaves : List ℕ → Bool → ℕ → ℕ → ℕ
leaves job hiding f s = cond hiding unknown (given_value job f s)

-- what a fluent becomes when an action that makes `value` of it acts, and by a table of effects when action a does
abbrev pub changed : Bool → ℕ → ℕ → ℕ
changed hiding value old = cond (not (eqb value unknown)) (cond hiding unknown value) old

abbrev pub changed_by : List ℕ → ℕ → Bool → ℕ → ℕ → ℕ
changed_by effects a hiding f old = changed hiding (get_or effects (a * 256 + f) 0) old

-- a pass to moment t
abbrev pub AfterPass : List ℕ → Bool → ℕ → List ℕ → List ℕ → List ℕ → Type 0
AfterPass job hiding t starts old new = Overlaid (fluents job) (acts_on job hiding t) (leaves job hiding) old starts new
