-- `job::names::with_children` meets its contract, by the kind of the word. Assumes nothing.
use mathlib.Core.Path.{sym, ◌∙◌}
use native.Mathlib.Omega.{arith}
use borrow.Author.Tests.{ne_eqb}
use Rattle.words.specs.Scan.{count}
use Rattle.job.proofs.Naming.{named-same}
use Rattle.job.proofs.names.with_children.Goals as goal

pub returns-in-6 : goal.returns-in-6
returns-in-6 c n h = named-same (c.with_node.ensures n h) (λ v. rw (sym c.kind_of.ensures.0 ∙ c.in-6.is))

pub returns-in-7 : goal.returns-in-7
unfolding count
returns-in-7 c n h =
    named-same (c.with_name.ensures n h)
    (λ v. rw (c.member_node.ensures.0, sym c.kind_of.ensures.0 ∙ c.in-7.is) (omega arith))

pub returns-in_default : goal.returns-in_default
unfolding count
returns-in_default c n h =
    let k = c.kind_of.ensures.0 in
    let rest = c.in_default.in_default-own.rest in
    named-same h (λ v. rw (ne_eqb _ 6 (λ e. rest.0.1 (k ∙ e)), ne_eqb _ 7 (λ e. rest.1 (k ∙ e))) (omega arith))
