-- The 63 - e highest digits are shifted out. Assumes nothing.
use mathlib.Core.Path.{ap, ◌∙◌}
use native.Mathlib.Omega.{arith}
use lib.Dec.{leb}
use Rattle.bitset.proofs.Digits.{has-upto}
use Rattle.bitset.proofs.upto.Goals as goal

pub returns : goal.returns
returns c k = has-upto 63 c.args.e k ∙ ap (leb k) (omega (arith, c.requires))
