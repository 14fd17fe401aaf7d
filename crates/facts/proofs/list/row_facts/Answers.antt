-- `facts::list::row_facts` meets its contract: the row of the history is read, and its facts are written. Assumes nothing.
use mathlib.Core.Path.{◌∙◌}
use native.Mathlib.Nat.{zero-add}
use Rattle.facts.proofs.Lists.{row-written}
use Rattle.facts.proofs.list.row_facts.Goals as goal

pub returns : goal.returns
returns c =
    let w = row-written c.args.history.now _ c.args.t (rw c.fluents_of.ensures.0 at c.values_at.ensures) c.write_facts.ensures in
    record { count = w.next ∙ zero-add _; held = w.held }
