-- `job::entries::list_word` meets its contract, by whether the word's kind lists something. Assumes nothing.
use Rattle.job.proofs.Listing.{lists-false, stored_none}
use Rattle.job.proofs.entries.list_word.Goals as goal

pub returns-in_default : goal.returns-in_default
returns-in_default c = stored_none (rw c.kind_of.ensures.0 at (lists-false _ c.in_default.in_default-own.rest.1))
