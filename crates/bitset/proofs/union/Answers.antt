-- A digit is set where either digit is. Assumes nothing.
use Rattle.bitset.proofs.Digits.{has-or}
use Rattle.bitset.proofs.union.Goals as goal

pub returns : goal.returns
returns c = has-or c.args.x c.args.y
