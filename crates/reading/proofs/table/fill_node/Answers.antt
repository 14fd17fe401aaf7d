-- `reading::table::fill_node` meets its contract: a task set's rows, or those of a node that its word alone tells how to read. Assumes nothing.
use mathlib.Core.Path.{sym, ap, ◌∙◌}
use Rattle.model.specs.Forms.{form_number}
use Rattle.model.specs.Code.Arrays.{procedure_in, trajectory_in}
use Rattle.reading.proofs.Nodes.{set-ready, set-node}
use Rattle.reading.proofs.table.fill_node.Goals as goal

pub fill_set-requires-clause-set_ready : goal.fill_set-requires-clause-set_ready
fill_set-requires-clause-set_ready c =
    let a = c.args in
    set-ready (procedure_in a.words.now a.arrays.now) (trajectory_in a.arrays.now) a.p (ap form_number (sym c.form_of.ensures.0 ∙ c.in-8.is)) c.requires.node_ready

pub returns-in-8 : goal.returns-in-8
returns-in-8 c =
    let a = c.args in
    set-node (procedure_in a.words.now a.arrays.now) (trajectory_in a.arrays.now) a.p (ap form_number (sym c.form_of.ensures.0 ∙ c.in-8.is)) c.requires.node_ready c.fill_set.ensures
