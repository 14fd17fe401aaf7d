-- `job::names::with_node` meets its contract: each arm names the children of its forms. Assumes nothing.
use mathlib.Core.Bool.{and-false}
use mathlib.Core.Path.{sym, ◌∙◌}
use native.Mathlib.Omega.{arith}
use borrow.Author.Tests.{lt-leb}
use Rattle.words.specs.Fields.{form}
use Rattle.words.specs.Scan.{count}
use Rattle.words.proofs.Choices.{true_within}
use Rattle.job.proofs.Children.{other_children}
use Rattle.job.proofs.Naming.{named-same}
use Rattle.job.proofs.names.with_node.Goals as goal

-- The form 4, if, names Y and M.
pub returns-in-4 : goal.returns-in-4
unfolding count
returns-in-4 c n h =
    let e = sym c.form_of.ensures.0 ∙ c.in-4.is in
    named-same (c.with_name-in-4.ensures _ (c.with_name.ensures n h))
    (λ v. rw (c.node_m.ensures.0, c.node_y-y.ensures.0, e) (omega arith))

-- The form 5, while, names Y.
pub returns-in-5 : goal.returns-in-5
unfolding count
returns-in-5 c n h =
    named-same (c.with_name-in-5.ensures n h)
    (λ v. rw (c.node_y-y.ensures.0, sym c.form_of.ensures.0 ∙ c.in-5.is) (omega arith))

-- The forms of two children name X and Y.
pub returns-in-2 : goal.returns-in-2
unfolding count
returns-in-2 c n h =
    let f = c.form_of.ensures.0 in
    let rest = c.in-2.in_default-own.rest in
    named-same (c.with_name-in-2-2.ensures _ (c.with_name-in-2.ensures n h))
    (λ v. rw (
      c.node_y-y.ensures.0,
      c.node_x-x.ensures.0,
      other_children _ _ (λ e. rest.0.1 (f ∙ e)) (λ e. rest.1 (f ∙ e)),
      true_within 2 7 (form c.args.w) (omega (arith, f)) (omega (arith, f)),
    ) (omega arith))

-- The forms below and above these name none.
pub returns-in_default : goal.returns-in_default
unfolding count
returns-in_default c n h =
    let f = c.form_of.ensures.0 in
    let rest = c.in_default.in_default-own.rest in
    named-same h (λ v. rw (other_children _ _ (λ e. rest.0.1 (f ∙ e)) (λ e. rest.1 (f ∙ e)), lt-leb 2 (form c.args.w) (omega (arith, f))) (omega arith))

pub returns-in_default-2 : goal.returns-in_default-2
unfolding count
returns-in_default-2 c n h =
    let f = c.form_of.ensures.0 in
    let rest = c.in_default.in_default-own.rest in
    named-same h (λ v. rw (other_children _ _ (λ e. rest.0.1 (f ∙ e)) (λ e. rest.1 (f ∙ e)), lt-leb (form c.args.w) 7 (omega (arith, f)), and-false) (omega arith))
