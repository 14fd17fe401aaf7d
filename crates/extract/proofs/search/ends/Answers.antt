-- `extract::search::ends` meets its contract: each of the two sets has a member. Assumes nothing.
use Rattle.extract.proofs.Searches.{nonempty}
use Rattle.extract.proofs.search.ends.Goals as goal

pub lowest-requires : goal.lowest-requires
lowest-requires c = nonempty _ _ c.requires.1.in_b

pub lowest-requires-2 : goal.lowest-requires-2
lowest-requires-2 c = nonempty _ _ c.requires.1.in_a
