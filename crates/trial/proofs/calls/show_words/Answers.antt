-- `trial::calls::show_words` meets its contract: the buffer is too short, or the answer is that of `shown`. Assumes nothing.
use Rattle.answers.proofs.Rows.{err-refused}
use Rattle.trial.proofs.CallRows.{short_buffer}
use Rattle.trial.proofs.calls.show_words.Goals as goal

pub returns-in-Err : goal.returns-in-Err
returns-in-Err c =
    let h = err-refused _ tt (rw c.in-Err.is at c.buffer_refusal.ensures) in
    short_buffer c.args.job.now c.args.words.now c.args.buffer.now h.1 h.0 c.answered.ensures
