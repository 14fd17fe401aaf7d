-- `facts::list::fill_facts` meets its contract: all facts are those up to the last moment. Assumes nothing.
use Rattle.facts.specs.Facts.{facts_of}
use Rattle.facts.proofs.list.fill_facts.Goals as goal

pub returns : goal.returns
unfolding facts_of
returns c starts h =
    let last = c.last_of.ensures.0 in
    rw (← last) (c.fill_upto.ensures starts (rw (← last) at h))
