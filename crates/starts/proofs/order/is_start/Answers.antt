-- `starts::order::is_start` meets its contract. Its value is the definition's. Assumes nothing.
use Rattle.starts.proofs.order.is_start.Goals as goal

pub returns : goal.returns
returns c = cc
