-- `sets::placing::place` meets its contract. Assumes nothing.
use mathlib.Core.Path.{refl, ◌∙◌}
use lib.ListN.{length-map}
use Rattle.words.specs.Fields.{member_node}
use Rattle.sets.proofs.Alone.{alone}
use Rattle.sets.proofs.placing.place.Goals as goal

pub returns-then-set-eq1 : goal.returns-then-set-eq1
returns-then-set-eq1 c = alone (length-map c.args.set.members.now member_node ∙ c.if-set-eq1.true) c.requires.rule c.requires.formed refl refl
