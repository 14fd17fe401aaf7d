-- `Text::refused` meets its contract: its texts, one after the other. Assumes nothing.
use Rattle.text.specs.Report.{refused_text}
use Rattle.text.proofs.Texts.{then}
use Rattle.text.proofs.report.Text.refused.Goals as goal

pub returns : goal.returns
unfolding refused_text
returns c = then c.field.ensures.appended (then c.field-2.ensures.appended (then c.field-3.ensures.appended c.append.ensures))
