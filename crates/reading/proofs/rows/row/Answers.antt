-- `reading::rows::row` meets its contract: in the arm of an end window the rule of the form is what the row function ensures, and a node that
-- comes to the last arm has a reserved form, which reads to nothing. Assumes nothing.
use mathlib.Core.Path.{◌≡◌, sym, ap, ◌∙◌}
use mathlib.Core.Logic.Iff
use native.Mathlib.Omega.{arith}
use Rattle.words.specs.Fields.{form}
use Rattle.bitset.proofs.In.{in_none}
use Rattle.model.specs.Forms.{form_number}
use Rattle.model.specs.Code.Arrays.{trajectory_in}
use Rattle.model.proofs.Forms.{reserved}
use Rattle.reading.proofs.Quiet.{ends_law}
use Rattle.reading.proofs.rows.row.Goals as goal

pub returns-in-7 : goal.returns-in-7
returns-in-7 c = λ e.
    let node = c.node_of-node.ensures in
    let form-is : form c.args.word ≡ 7 = sym node.form.0 ∙ c.in-7.is in
    rw (form-is, ← node.y.0, ← node.x.0)
    (Iff.trans (rw c.pause_of.ensures at (c.end_window_row.ensures e))
    (ends_law (trajectory_in c.args.arrays.now) c.requires.mask))

pub returns-in-8-to-4294967295 : goal.returns-in-8-to-4294967295
returns-in-8-to-4294967295 c = λ e.
    let form = c.node_of-node.ensures.form in
    let not-set : c.node_of-node.result.form ≡ 8 → ⊥ = λ k. c.requires.single (ap form_number (sym form.0 ∙ k)) in
    rw (rw form.0 at (reserved c.node_of-node.result.form (omega (arith, not-set)))) (in_none (λ e z. z) e)
