-- `job::job_end::end_refusal` meets its contract: its tests are those of the rows, at the facts that the state holds. Assumes nothing.
use lib.ListN.{length}
use borrow.Author.Tests.{eq-eqb, ne_eqb}
use Rattle.job.specs.Before.{before}
use Rattle.job.specs.Refusal.{end_refusal}
use Rattle.job.proofs.job_end.end_refusal.Goals as goal

pub returns-then-s-actions_of : goal.returns-then-s-actions_of
unfolding end_refusal
returns-then-s-actions_of c =
    rw (c.refuse.ensures, ← c.requires.2.actions, ← c.actions_of.ensures.0, ne_eqb _ _ c.if-s-actions_of.true)

pub returns-then-s-eq0 : goal.returns-then-s-eq0
unfolding end_refusal
returns-then-s-eq0 c =
    rw (
      c.refuse-then-s-eq0.ensures,
      ← c.requires.2.actions,
      ← c.requires.2.nodes,
      ← c.actions_of.ensures.0,
      eq-eqb _ _ c.if-s-actions_of.false,
      c.if-s-eq0.true,
    )

pub returns-then-form_of-s : goal.returns-then-form_of-s
unfolding end_refusal
returns-then-form_of-s c =
    rw (
      c.refuse-then-form_of-s.ensures,
      ← c.requires.2.actions,
      ← c.requires.2.nodes,
      ← c.requires.2.node,
      ← c.requires.2.members,
      ← c.actions_of.ensures.0,
      ← c.form_of.ensures.0,
      eq-eqb _ _ c.if-s-actions_of.false,
      ne_eqb _ 0 c.if-s-eq0.false,
      c.if-form_of-s.true,
    )

pub returns : goal.returns
unfolding end_refusal
returns c =
    let p = before c.args.job.now (length c.args.job.now) in
    rw (
      ← c.requires.2.actions,
      ← c.requires.2.nodes,
      ← c.requires.2.node,
      ← c.requires.2.members,
      ← c.actions_of.ensures.0,
      ← c.form_of.ensures.0,
      eq-eqb _ _ c.if-s-actions_of.false,
      ne_eqb _ 0 c.if-s-eq0.false,
      c.if-form_of-s.false,
    )
    (c.name_refusal.ensures p c.requires.2.names)
