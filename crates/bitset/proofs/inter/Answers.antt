-- A digit is set where both digits are. Assumes nothing.
use Rattle.bitset.proofs.Digits.{has-and}
use Rattle.bitset.proofs.inter.Goals as goal

pub returns : goal.returns
returns c = has-and c.args.x c.args.y
