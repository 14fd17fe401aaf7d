-- `Text::hex_line` meets its contract: `io::hex` makes eight digits of a 32-bit number. Assumes nothing.
use Rattle.std.proofs.Common.{arith}
use Rattle.text.proofs.Numbers.{eight, hex_end}
use Rattle.text.proofs.report.Text.hex_line.Goals as goal

pub append-requires : goal.append-requires
append-requires c = omega (arith, eight c.from.ensures c.ranges.word.fits c.hex-k.ensures.len, c.hex-k.ensures.in_bounds.1, c.requires)

pub append-requires-2 : goal.append-requires-2
append-requires-2 c = omega (arith, eight c.from.ensures c.ranges.word.fits c.hex-k.ensures.len, c.hex-k.ensures.in_bounds.1, c.append.ensures.ends, c.append.ensures.room, c.requires)

pub returns : goal.returns
returns c = hex_end _ _ _ _ c.from.ensures c.hex-k.ensures.digits c.hex-k.ensures.len c.ranges.word.fits c.append.ensures c.append-2.ensures
