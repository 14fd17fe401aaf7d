-- `extract::parts::choose_parts` meets its contract: in each arm the rule of the form gives what the search asks, and what it finds is a
-- choice of parts. Assumes nothing.
use mathlib.Core.Path.{sym, ap, ◌∙◌}
use mathlib.Core.List.{List}
use Prim.Native.Nat.{ℕ, ◌+◌, ◌*◌, ◌<◌}
use native.Mathlib.Omega.{arith}
use lib.ListN.{get_or}
use Rattle.std.proofs.Common.{rules}
use Rattle.model.specs.Procedure.{Procedure}
use Rattle.model.specs.Trajectory.{Trajectory}
use Rattle.model.specs.Forms.{form_number}
use Rattle.model.specs.declared.Triple.{Triple}
use Rattle.model.proofs.Forms.{reserved}
use Rattle.extract.specs.Code.Search.{Within}
use Rattle.extract.specs.Code.Parts.{Choosable}
use Rattle.extract.proofs.Choice.{end_last, act_chosen, test_chosen, reserved_chosen, choice_some, choice_chosen, if_chosen, sequence_some, sequence_chosen, end_some, end_chosen, start_some, start_chosen, set-some, set-chosen}
use Rattle.extract.proofs.parts.choose_parts.Goals as goal

module _ {P : Procedure} {T : Trajectory} {started size : ℕ} {places table : List ℕ} {t : Triple} (h : Choosable P T started size places table t) where
  moments : (t.begin < 64) × (t.end < 64)
  moments =
      let last = h.prepared.ready.moments in
      let begin = h.within in
      let end = end_last h.prepared h.known begin h.found in
      (omega arith, omega arith)

  pair : {x y : ℕ} → x < 64 → y < 64 → Within table x y t.begin t.end
  pair l r = record { left = l; right = r; begin = moments.0; finish = moments.1; size = h.prepared.found.size }

pub end_window_parts-requires : goal.end_window_parts-requires
end_window_parts-requires c =
    let h = c.requires.1 in
    rw c.at_once.ensures (record {
      within = pair h c.node_of-node.ensures.x.1 c.node_of-node.ensures.y.1;
      early = omega arith;
      late = omega arith;
      some = sequence_some h.prepared h.known h.within h.found (ap form_number (sym c.node_of-node.ensures.form.0 ∙ c.in-2.is)) c.node_of-node.ensures.x.0 c.node_of-node.ensures.y.0;
    })

pub choose-requires-clause-in_table : goal.choose-requires-clause-in_table
choose-requires-clause-in_table c = let h = c.requires.1 in choice_some h.prepared h.known h.within h.found (ap form_number (sym c.node_of-node.ensures.form.0 ∙ c.in-3.is)) c.node_of-node.ensures.x.0 c.node_of-node.ensures.y.0

pub start_window_parts-requires : goal.start_window_parts-requires
start_window_parts-requires c =
    let h = c.requires.1 in
    record {
      within = pair h c.node_of-node.ensures.x.1 c.node_of-node.ensures.y.1;
      early = c.node_of-node.ensures.m.1;
      late = c.node_of-node.ensures.n.1;
      some = start_some h.prepared h.known h.within h.found (ap form_number (sym c.node_of-node.ensures.form.0 ∙ c.in-6.is)) c.node_of-node.ensures.x.0 c.node_of-node.ensures.y.0 c.node_of-node.ensures.m.0 c.node_of-node.ensures.n.0;
    }

pub end_window_parts-requires-in-7 : goal.end_window_parts-requires-in-7
end_window_parts-requires-in-7 c =
    let h = c.requires.1 in
    rw c.pause_of.ensures (record {
      within = pair h c.node_of-node.ensures.x.1 c.node_of-node.ensures.y.1;
      early = rw (← c.node_of-node.ensures.m.0) c.node_of-node.ensures.m.1;
      late = rw (← c.node_of-node.ensures.n.0) c.node_of-node.ensures.n.1;
      some = end_some h.prepared h.known h.within h.found (ap form_number (sym c.node_of-node.ensures.form.0 ∙ c.in-7.is)) c.node_of-node.ensures.x.0 c.node_of-node.ensures.y.0;
    })

pub set_parts-requires : goal.set_parts-requires
set_parts-requires c = let h = c.requires.1 in (h.prepared.ready.inside c.args.triple.node h.known, set-some h.prepared h.known h.within h.found (ap form_number (sym c.node_of-node.ensures.form.0 ∙ c.in-8.is)))

pub returns-in-0 : goal.returns-in-0
returns-in-0 c = λ u h. rw c.parts_of.ensures (omega arith, act_chosen h.prepared h.known h.within h.found (ap form_number (sym c.node_of-node.ensures.form.0 ∙ c.in-0.is)))

pub returns-in-1 : goal.returns-in-1
returns-in-1 c = λ u h. rw c.parts_of-in-1.ensures (omega arith, test_chosen h.prepared h.known h.within h.found (ap form_number (sym c.node_of-node.ensures.form.0 ∙ c.in-1.is)))

pub returns-in-2 : goal.returns-in-2
returns-in-2 c = λ u h.
    let (k, l, found, is) = c.end_window_parts.ensures in
    rw is (omega arith, sequence_chosen h.prepared h.known h.within h.found (ap form_number (sym c.node_of-node.ensures.form.0 ∙ c.in-2.is)) c.node_of-node.ensures.x.0 c.node_of-node.ensures.y.0 (rw c.at_once.ensures at found))

pub returns-in-3 : goal.returns-in-3
returns-in-3 c = λ u h.
    let (which, found) = c.choose.ensures in
    rw (c.parts_of-in-3.ensures, c.part.ensures) (omega arith, choice_chosen h.prepared h.known h.within h.found (ap form_number (sym c.node_of-node.ensures.form.0 ∙ c.in-3.is)) c.node_of-node.ensures.x.0 c.node_of-node.ensures.y.0 which found)

pub returns-in-4 : goal.returns-in-4
returns-in-4 c = λ u h.
    rw (c.parts_of-in-4.ensures, c.part-in-4.ensures) (
      omega arith,
      if_chosen h.prepared h.known h.within h.found (ap form_number (sym c.node_of-node.ensures.form.0 ∙ c.in-4.is))
          (c.value.ensures ∙ ap (λ (i : ℕ). get_or c.args.source.now.arrays.now.values (i * 64 + c.args.triple.begin) 0) c.node_of-node.ensures.x.0) c.node_of-node.ensures.y.0 c.node_of-node.ensures.m.0 c.taken.ensures,
    )

pub returns-in-6 : goal.returns-in-6
returns-in-6 c = λ u h.
    let (k, m, l, found, is) = c.start_window_parts.ensures in
    rw is (omega arith, start_chosen h.prepared h.known h.within h.found (ap form_number (sym c.node_of-node.ensures.form.0 ∙ c.in-6.is)) c.node_of-node.ensures.x.0 c.node_of-node.ensures.y.0 c.node_of-node.ensures.m.0 c.node_of-node.ensures.n.0 found)

pub returns-in-7 : goal.returns-in-7
returns-in-7 c = λ u h.
    let (k, l, found, is) = c.end_window_parts-in-7.ensures in
    rw is (omega arith, end_chosen h.prepared h.known h.within h.found (ap form_number (sym c.node_of-node.ensures.form.0 ∙ c.in-7.is)) c.node_of-node.ensures.x.0 c.node_of-node.ensures.y.0 (rw c.pause_of.ensures at found))

pub returns-in-8 : goal.returns-in-8
returns-in-8 c = λ u h. set-chosen h.prepared h.known h.within h.found (ap form_number (sym c.node_of-node.ensures.form.0 ∙ c.in-8.is)) (search rules) c.set_parts.ensures

pub returns-in-9-to-4294967295 : goal.returns-in-9-to-4294967295
returns-in-9-to-4294967295 c = λ u h.
    let node = c.node_of-node in
    rw c.parts_of-in-9-to-4294967295.ensures (omega arith, reserved_chosen h.prepared h.known h.within h.found (ap form_number (sym node.ensures.form.0) ∙ reserved node.result.form (omega arith)))
