-- A digit is set where x's is and y's is not. Assumes nothing.
use Rattle.bitset.proofs.Digits.{has-minus}
use Rattle.bitset.proofs.minus.Goals as goal

pub returns : goal.returns
returns c = has-minus c.args.x c.args.y
