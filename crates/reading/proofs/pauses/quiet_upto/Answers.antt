-- `reading::pauses::quiet_upto` meets its contract: no start from k on, one before the limit, or one no sooner. Assumes nothing.
use native.Mathlib.Omega.{arith}
use Rattle.reading.proofs.Quiet.{upto_none}
use borrow.Author.Rules.{rules}
use Rattle.reading.proofs.pauses.quiet_upto.Goals as goal

pub returns-then-later-eq0 : goal.returns-then-later-eq0
returns-then-later-eq0 c = upto_none _ c.from.result (search rules) c.from.ensures c.inter-later.ensures (omega arith)
