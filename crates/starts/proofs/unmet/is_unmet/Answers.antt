-- `starts::unmet::is_unmet` meets its contract. Its value is the definition's. Assumes nothing.
use Rattle.starts.proofs.unmet.is_unmet.Goals as goal

pub returns : goal.returns
returns c = rw (← c.role_of-role.ensures.0, ← c.fluent_of.ensures.0)
