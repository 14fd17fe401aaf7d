-- A member that is still to come is left. Assumes nothing.
use Prim.Native.Nat.{ℕ}
use Rattle.bitset.specs.Code.Members.{In}
use Rattle.bitset.proofs.In.{in_without}
use Rattle.narrowing.proofs.choose.Goals as goal
use Rattle.narrowing.proofs.choose.Goals.{In-Some}

-- those to come after the one of this turn are left
others : (c : In-Some) (k : ℕ) → In c.next.new.self.left k → In c.args.state.left k
others c k t = let turn = c.in-Some.ensures.steps in c.loop-i.invariant.rest k ((in_without (turn.1.rest c.in-Some.i turn.0) k).0 t).0

pub loop-i-preserved-then-members-i : goal.loop-i-preserved-then-members-i
loop-i-preserved-then-members-i c =
    let t = c.loop-i.invariant.rest c.in-Some.i (record { yes = c.in-Some.ensures.steps.0.member }) in
    record { small = c.requires.2 _ t; left = t; rest = others (goal.at.loop-i-preserved-then-members-i c).In-Some }

pub loop-i-preserved : goal.loop-i-preserved
loop-i-preserved c = let v = c.loop-i.invariant in record { small = v.small; left = v.left; rest = others (goal.at.loop-i-preserved c).In-Some }
