-- `Text::accepted` meets its contract: its texts, one after the other. Assumes nothing.
use lib.Seq.{take-length}
use Rattle.text.specs.Report.{accepted_text}
use Rattle.text.proofs.Texts.{then}
use Rattle.text.proofs.report.Text.accepted.Goals as goal

pub returns : goal.returns
unfolding accepted_text
returns c = rw (take-length c.args.words.now) (then c.field.ensures.appended (then c.field-2.ensures.appended (then c.append.ensures c.lines.ensures)))
