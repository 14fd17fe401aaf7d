-- `reading::table::fill_table` meets its contract. The invariant: the rows of the nodes below p are right, and every other row is empty. Assumes nothing.
use Rattle.reading.proofs.Tables.{built_ready, built_more, built_end}
use native.Mathlib.Omega.{arith}
use borrow.Author.Rules.{rules}
use Rattle.reading.proofs.table.fill_table.Goals as goal

pub fill_node-requires-clause-node_ready : goal.fill_node-requires-clause-node_ready
fill_node-requires-clause-node_ready c = built_ready c.requires.0 c.requires.2 (omega arith) c.loop-p.invariant

pub loop-p-preserved : goal.loop-p-preserved
loop-p-preserved c =
    let g = c.requires.0 in
    built_more g.moments (g.formed c.loop-p.p (omega arith)).lower c.loop-p.invariant c.fill_node.ensures (search rules)

pub returns : goal.returns
returns c = built_end (omega arith) c.loop-p.invariant
