-- The digits from e on are set. Assumes nothing.
use Rattle.bitset.proofs.Digits.{has-from}
use Rattle.bitset.proofs.from.Goals as goal

pub returns : goal.returns
returns c = has-from 64 c.args.e
