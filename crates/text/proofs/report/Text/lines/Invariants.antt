-- The loop of `Text::lines`: at an index the lines of the words before it are written. Assumes nothing.
use Rattle.std.proofs.Common.{take}
use Rattle.text.specs.Report.{hex_lines}
use Rattle.text.specs.Code.Written.{Appended}
use Rattle.text.proofs.report.Text.lines.Given as goal

abbrev pub invariant-loop-word : goal.invariant-loop-word
invariant-loop-word l = Appended l.initial.self (hex_lines (take l.word-index l.words)) l.self
