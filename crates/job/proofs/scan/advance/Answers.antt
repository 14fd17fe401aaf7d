-- `job::scan::advance` meets its contract, field by field: what one word more makes of each fact. Assumes nothing.
use mathlib.Core.Bool.{Bool, true, false}
use mathlib.Core.Path.{◌≡◌, refl, sym, ◌∙◌}
use mir.Val.{bool_byte}
use Prim.Native.Nat.{◌≤◌}
use lib.Dec.{eqb}
use native.Mathlib.Omega.{arith}
use Rattle.words.specs.Tests.{indicator}
use Rattle.job.specs.Parts.{is_group}
use Rattle.job.proofs.Before.{count-before, count-since, count-more, count-since-more, latest-more, any-more, named_more}
use Rattle.job.proofs.Naming.{named-same}
use Rattle.job.proofs.scan.advance.Goals as goal

byte : (t : Bool) → bool_byte t ≡ indicator t
byte true = refl
byte false = refl

byte-one : (t : Bool) → bool_byte t ≤ 1
byte-one true = omega arith
byte-one false = omega arith

pub overflow_add-formulas : goal.overflow_add-formulas
overflow_add-formulas c = omega (arith, c.from-2.ensures, byte-one (eqb c.kind_of-k.result 5), count-before 5 c.args.job.now c.args.i)

pub overflow_add-nodes : goal.overflow_add-nodes
overflow_add-nodes c = omega (arith, c.from-3.ensures, byte-one (eqb c.kind_of-k.result 6), count-before 6 c.args.job.now c.args.i)

pub overflow_add-s : goal.overflow_add-s
overflow_add-s c = omega (arith, c.from-4.ensures, byte-one (eqb c.kind_of-k.result 7), count-since 7 6 c.args.job.now c.args.i)

pub overflow_add-s-2 : goal.overflow_add-s-2
overflow_add-s-2 c = omega (arith, c.from-5.ensures, byte-one (eqb c.kind_of-k.result 8), count-since 8 6 c.args.job.now c.args.i)

pub returns : goal.returns
returns c =
    let k = c.kind_of-k.ensures.0 in
    let job = c.args.job.now in
    let i = c.args.i in
    record {
      actions = omega (arith, c.requires.1, rw k at (c.from.ensures ∙ byte _), count-more job i 3);
      formulas = omega (arith, c.requires.1, rw k at (c.from-2.ensures ∙ byte _), count-more job i 5);
      nodes = omega (arith, c.requires.1, rw k at (c.from-3.ensures ∙ byte _), count-more job i 6);
      members = rw (count-since-more job i 7 6, ← k, ← c.requires.1.members, ← (c.from-4.ensures ∙ byte _)) c.pick-members.ensures;
      conditions = rw (count-since-more job i 8 6, ← k, ← c.requires.1.conditions, ← (c.from-5.ensures ∙ byte _)) c.pick-conditions.ensures;
      node = rw (latest-more job i 6, ← k, ← c.requires.1.node) c.pick-node.ensures;
      groups = λ g. c.with_group-groups.ensures g ∙ rw (any-more job i (is_group g), c.requires.1.groups g);
      names = named-same (c.with_children-names.ensures _ c.requires.1.names) (λ v. sym (named_more job i v));
    }

pub overflow_add-actions : goal.overflow_add-actions
overflow_add-actions c = omega (arith, c.from.ensures, byte-one (eqb c.kind_of-k.result 3), count-before 3 c.args.job.now c.args.i)
