-- `job::rules::word_refusal_of` meets its contract, by its tests. Assumes nothing.
use Rattle.job.specs.Rules.{word_refusal_of}
use Rattle.job.proofs.rules.word_refusal_of.Goals as goal

pub returns-then-not-shape : goal.returns-then-not-shape
unfolding word_refusal_of
returns-then-not-shape c = rw c.if-not-shape.true

pub returns-then-not-range : goal.returns-then-not-range
unfolding word_refusal_of
returns-then-not-range c = rw (c.if-not-shape.false, c.if-not-range.true)

pub returns-then-not-fresh : goal.returns-then-not-fresh
unfolding word_refusal_of
returns-then-not-fresh c = rw (c.if-not-shape.false, c.if-not-range.false, c.if-not-fresh.true)

pub returns-else-not-fresh : goal.returns-else-not-fresh
unfolding word_refusal_of
returns-else-not-fresh c = rw (c.if-not-shape.false, c.if-not-range.false, c.if-not-fresh.false)
