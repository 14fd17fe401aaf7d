-- `Text::lines` meets its contract: at an index the lines of the words before it are written. Assumes nothing.
use Rattle.std.proofs.Common.{arith, take}
use lib.ListN.{length-take}
use Rattle.text.specs.Report.{hex_lines}
use Rattle.text.proofs.Texts.{nothing}
use Rattle.text.proofs.Numbers.{length-hex_lines, line_more}
use Rattle.text.proofs.report.Text.lines.Goals as goal

pub loop-word-init : goal.loop-word-init
unfolding hex_lines
loop-word-init c = nothing _

pub hex_line-requires : goal.hex_line-requires
hex_line-requires c =
    let front = take c.loop-word.word-index c.args.words.now in
    omega (arith, c.loop-word.invariant.ends, c.loop-word.invariant.room, length-hex_lines front, length-take c.loop-word.word-index c.args.words.now, c.loop-word-test.true, c.requires)

pub loop-word-preserved : goal.loop-word-preserved
loop-word-preserved c = line_more c.args.words.now c.loop-word.word-index (omega (arith, c.loop-word-test.true)) c.loop-word.invariant c.hex_line.ensures
