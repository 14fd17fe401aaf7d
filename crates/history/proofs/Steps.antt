-- A step of a walk: there is room for the starts that begin, the passes can be walked, and the list of the next moment is the plan's. Assumes
-- nothing.
use mathlib.Core.List.{List}
use mathlib.Core.Path.{◌≡◌}
use Prim.Native.Nat.{ℕ, ◌+◌, ◌≤◌}
use native.Mathlib.Omega.{arith}
use lib.ListN.{length, take}
use Rattle.history.specs.Held.{starting_at, Ascending, HeldList, HoldsNext}
use Rattle.history.specs.Code.Tables.{Named, Walkable}
use Rattle.history.specs.Code.Held.{Steppable}
use Rattle.history.proofs.Carried.{each_lasts, each_timed, list_named, list_room, hiding_walkable}

module _ {job durations effects starting : List ℕ} {t : ℕ} {held : List ℕ} {count : ℕ} {bytes : List ℕ}
    (p : Steppable job durations effects starting t held count bytes) where
  pub step_room : count + length starting ≤ length held
  step_room = rw p.begin (omega (arith, list_room p.carried.list, p.room))

  pub step_walk : Walkable job durations effects (take count held)
  step_walk = record { well = p.walk.well; tables = p.walk.tables; named = list_named p.carried.list p.walk.named }

  module _ {new : List ℕ} {all : ℕ} (h : HoldsNext durations starting t held count new all) where
    -- the list of the next moment: of any starts of the job, and so of the plan
    pub step_next : (S : List ℕ) → Named job S → Ascending S → starting ≡ starting_at S (t + 1) → HeldList job S t held count → HeldList job S (t + 1) new all
    step_next S named ascends begin list = h.next job S (each_timed p.walk.tables.durations named) (each_lasts p.walk.well named) ascends begin list

    pub step_planned : HeldList job p.plan (t + 1) new all
    step_planned = step_next p.plan p.walk.named p.ascends p.begin p.carried.list

    -- those before the starts that begin
    pub step_hiding : (kept : ℕ) → kept + length starting ≡ all → Walkable job durations effects (take kept new)
    step_hiding kept e = hiding_walkable t p.begin (each_lasts p.walk.well p.walk.named) p.ascends step_planned kept e p.walk
