-- `groups::store_word` meets its contract. Assumes nothing.
use mathlib.Core.Path.{◌≡◌, sym, ◌∙◌}
use native.Mathlib.Omega.{arith}
use Rattle.words.specs.Fields.{kind}
use Rattle.groups.proofs.GroupTable.{limit_here}
use Rattle.groups.proofs.store_word.Goals as goal

pub bounds-all-group_number : goal.bounds-all-group_number
bounds-all-group_number c = omega (arith, c.group_number.ensures.0, c.requires.0 (sym c.kind_of.ensures.0 ∙ c.if-kind_of-eq-GROUP.true))

pub returns-then-kind_of-eq-GROUP : goal.returns-then-kind_of-eq-GROUP
returns-then-kind_of-eq-GROUP c =
    let declares : kind c.args.w ≡ 13 = sym c.kind_of.ensures.0 ∙ c.if-kind_of-eq-GROUP.true in
    limit_here _ _ declares c.group_number.ensures.0 c.group_limit.ensures.0 (omega (arith, c.group_number.ensures.0, c.requires.0 declares, c.requires.2))
