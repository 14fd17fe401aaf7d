-- Between functions: the rule of each form, one step deep: when node p has an end e from b, given which ends its parts have, R. Ends beyond
-- the last moment do not count. No public contract cites this: `step` (proofs/Step.antt) shows that it says of ends what Reading.antt says
-- of readings.
use Rattle.std.specs.Prelude.{ℕ, ◌+◌, ◌≤◌, max, true, ◌≡◌, ◌⊎◌}
use Rattle.words.specs.Fields.{fails, holds}
use Rattle.model.specs.Trajectory.{Trajectory}
use Rattle.model.specs.Procedure.{Procedure}
use Rattle.sets.specs.Code.Set.{SetRule}
use Rattle.model.specs.Forms.{Form, Act, Test, Sequence, Choice, If, While, StartWindow, EndWindow, Set, Reserved, field_x, field_y, field_m, field_n}
use Rattle.reading.specs.Forms.{set_at}
use Rattle.reading.specs.Reading.{Quiet}

-- one part ends at m, from `low` to `last`, and the next begins there
pub record InTurn (low last : ℕ) (X Y : ℕ → Type 0) : Type 0 where
  pub m : ℕ
  pub early : low ≤ m
  pub upto : m ≤ last
  pub left : X m
  pub right : Y m

-- Y begins at m, from `low` to `high`; X ends at k and Y at l, and e is the greater
pub record StartsWithin (low high last e : ℕ) (X : ℕ → Type 0) (Y : ℕ → ℕ → Type 0) : Type 0 where
  pub m : ℕ
  pub early : low ≤ m
  pub late : m ≤ high
  pub upto : m ≤ last
  pub k : ℕ
  pub l : ℕ
  pub greater : e ≡ max k l
  pub left : X k
  pub right : Y m l

-- X ends at k, and Y begins at m, `least` to `most` later, with a pause between them that Q allows
pub record EndsWithin (b least most last : ℕ) (Q : ℕ → ℕ → Type 0) (X Y : ℕ → Type 0) : Type 0 where
  pub k : ℕ
  pub m : ℕ
  pub after : b ≤ k
  pub early : k + least ≤ m
  pub late : m ≤ k + most
  pub upto : m ≤ last
  pub left : X k
  pub right : Y m
  pub quiet : Q k m

abbrev pub Rule : Procedure → Trajectory → (ℕ → ℕ → ℕ → Type 0) → Form → ℕ → ℕ → ℕ → Type 0
Rule P T R Act p b e = (T.starts (field_x P p) b ≡ true) × (e ≡ b + T.duration (field_x P p)) × (e ≤ T.last)
Rule P T R Test p b e = (T.value (field_x P p) b ≡ holds) × (e ≡ b)
Rule P T R Sequence p b e = InTurn b T.last (R (field_x P p) b) (λ m. R (field_y P p) m e)
Rule P T R Choice p b e = R (field_x P p) b e ⊎ R (field_y P p) b e
Rule P T R If p b e = ((T.value (field_x P p) b ≡ holds) × R (field_y P p) b e) ⊎ ((T.value (field_x P p) b ≡ fails) × R (field_m P p) b e)
Rule P T R While p b e =
    ((T.value (field_x P p) b ≡ fails) × (e ≡ b))
    ⊎ ((T.value (field_x P p) b ≡ holds) × InTurn (b + 1) T.last (R (field_y P p) b) (λ m. R p m e))
Rule P T R StartWindow p b e = StartsWithin (b + field_m P p) (b + field_n P p) T.last e (R (field_x P p) b) (R (field_y P p))
Rule P T R EndWindow p b e = EndsWithin b (field_m P p) (field_n P p) T.last (Quiet T) (R (field_x P p) b) (λ m. R (field_y P p) m e)
Rule P T R Set p b e = SetRule (set_at P T p) R b e
Rule P T R Reserved p b e = ⊥
