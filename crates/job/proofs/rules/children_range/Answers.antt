-- `job::rules::children_range` meets its contract: the children of each form are those that its tests ask of. Assumes nothing.
use Rattle.job.proofs.Children.{children-below}
use Rattle.job.proofs.rules.children_range.Goals as goal

pub returns : goal.returns
returns c = rw (c.form_of-f.ensures.0, c.node_x-x.ensures.0, c.node_y-y.ensures.0, c.node_m-m.ensures.0, children-below c.args.w c.args.nodes)
