-- `Text::answer` meets its contract: the words of a reading are the first of the list. Assumes nothing.
use Rattle.std.proofs.Common.{◌≤◌, length}
use Rattle.text.proofs.Texts.{front_text}
use Rattle.text.proofs.report.Text.answer.Goals as goal

pub returns-in-Accepted : goal.returns-in-Accepted
returns-in-Accepted c =
    let fits : c.in-Accepted.length ≤ length c.args.words.now = rw c.in-Accepted.is at c.requires.0 in
    rw (c.in-Accepted.is, ← front_text c.in-Accepted.length c.in-Accepted.count c.args.words.now fits) c.accepted.ensures
