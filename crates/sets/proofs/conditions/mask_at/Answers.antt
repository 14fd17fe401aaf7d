-- `sets::conditions::mask_at` meets its contract: in each arm the mask of the form. Assumes nothing.
use Rattle.bitset.proofs.In.{in_none}
use Rattle.model.proofs.Forms.{no_condition}
use native.Mathlib.Omega.{arith}
use Rattle.sets.proofs.conditions.mask_at.Goals as goal

pub returns-in-4 : goal.returns-in-4
returns-in-4 c = λ value n k f g h. rw c.in-4.is (λ y. c.holds_until.ensures value n k y (rw c.in-4.is at f))

pub returns-in_default : goal.returns-in_default
returns-in_default c = λ value n k f g h.
    rw (no_condition c.args.form (λ q. omega arith) (λ q. omega arith) (λ q. omega arith) (λ q. omega arith) (λ q. omega arith)) (in_none (λ y o. o.2))
