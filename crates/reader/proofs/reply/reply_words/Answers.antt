-- `reply::reply_words` meets its contract: the starts end within the plan, and the report reads what `find_reading` wrote. Assumes nothing.
use Rattle.std.proofs.Common.{◌∙◌}
use Rattle.text.proofs.Plans.{starts_fit, starts_before, facts_after}
use Rattle.reader.proofs.reply.reply_words.Goals as goal

pub split_at-requires : goal.split_at-requires
split_at-requires c = starts_fit c.args.plan.now _ c.starts_length.ensures

pub returns-clause-text : goal.returns-clause-text
returns-clause-text c =
    let plan = c.args.plan.now in
    let starts = c.split_at.ensures.front ∙ starts_before plan _ c.starts_length.ensures in
    let facts = c.split_at.ensures.back ∙ facts_after plan _ c.starts_length.ensures in
    record {
      answer = c.find_reading-answer.result;
      after = c.find_reading-answer.new.buffer;
      outcome = rw (c.requires.0, starts, facts) at c.find_reading-answer.ensures.outcome;
      reported = c.report.ensures.reads;
    }
