-- `Text::decimal` meets its contract: the digits that `io::decimal` makes are the decimal text. Assumes nothing.
use Rattle.text.proofs.Numbers.{decimal_end}
use Rattle.text.proofs.report.Text.decimal.Goals as goal

pub returns-clause-appended : goal.returns-clause-appended
returns-clause-appended c = (decimal_end _ _ _ c.decimal-k.ensures.digits c.decimal-k.ensures.len c.ranges.n.fits c.append.ensures).0
