-- `model::set_words` meets its contract: the members lead the words after the node's own, and the conditions lead what stands after them. Assumes nothing.
use Rattle.std.proofs.lemmas.List.{take_rest}
use Rattle.words.proofs.Scan.{drop_while-drop, take_while-take}
use Rattle.words.specs.Fields.{of_kind}
use Rattle.model.proofs.set_words.Goals as goal

pub returns-clause-conditions : goal.returns-clause-conditions
returns-clause-conditions c =
    rw (c.run_length-2.ensures, take_while-take (of_kind 8), c.split_at.ensures.back, c.run_length.ensures, take_rest, drop_while-drop (of_kind 7))
