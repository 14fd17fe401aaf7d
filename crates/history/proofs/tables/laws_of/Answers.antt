-- `history::tables::laws_of` meets its contract: the laws are the part of the job from the word after the action's own to the end that the
-- table has for it. Assumes nothing.
use Prim.Native.Nat.{ℕ, ◌+◌, ◌≤◌, ◌<◌}
use mathlib.Core.List.{List}
use lib.ListN.{length, get_or}
use native.Mathlib.Omega.{arith}
use Rattle.job.specs.Parts.{actions}
use Rattle.history.specs.Code.Tables.{Ruled}
use Rattle.history.proofs.LawsAt.{laws_from, laws_fit, laws_part}
use Rattle.history.proofs.tables.laws_of.Goals as goal

-- the part starts in the job, ends after its start and in the job
module _ {job places ends : List ℕ} {a : ℕ} (given : Ruled job places ends × (a < actions job)) where
  low : (get_or places a 0 + 1 ≤ 2048) × (get_or places a 0 + 1 ≤ get_or ends a 0) × (get_or ends a 0 ≤ length job)
  low =
      let rules = given.0 in
      omega (
        arith,
        rules.formed.short,
        laws_from rules.formed rules.indexed given.1,
        laws_fit rules.formed rules.indexed given.1,
        rules.laws.entry a given.1,
      )

pub slice_bounds-result-end : goal.slice_bounds-result-end
slice_bounds-result-end c = omega (arith, low c.requires)

pub returns : goal.returns
returns c =
    let given = c.requires in
    rw (given.0.laws.entry _ given.1) (laws_part given.0.formed given.0.indexed given.1)
