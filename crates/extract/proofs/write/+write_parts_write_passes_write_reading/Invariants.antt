-- A node's parts and passes are written under its own number, and each of them has a lower one: the measures are 2 * node + 1 and 2 * node. The
-- loops' invariants: what the parts, or the passes, written so far are, whatever the writer does not see. Assumes nothing.
use mathlib.Core.Path.{◌≡◌}
use Prim.Native.Nat.{◌+◌, ◌-◌, ◌*◌}
use lib.ListN.{length}
use Rattle.model.specs.Forms.{While, form_at}
use Rattle.extract.specs.Code.Source.{Unseen, procedure_by, trajectory_by}
use Rattle.extract.specs.Code.Contract.{Rest, WritableBy, ReadingWritten}
use Rattle.extract.proofs.Steps.{Done, Halfway}
use Rattle.extract.proofs.write.+write_parts_write_passes_write_reading.Given as goal

abbrev pub decreases-write_parts : goal.decreases-write_parts
decreases-write_parts l = l.triple.node * 2

abbrev pub decreases-write_passes : goal.decreases-write_passes
decreases-write_passes l = l.triple.node * 2

abbrev pub decreases-write_reading : goal.decreases-write_reading
decreases-write_reading l = l.triple.node * 2 + 1

abbrev pub invariant-write_parts-loop-part : goal.invariant-write_parts-loop-part
invariant-write_parts-loop-part l =
    (u : Unseen) → WritableBy Rest l.source l.fn.triple l.at (length l.initial.buffer) u → (form_at (procedure_by l.source u) l.fn.triple.node ≡ While → ⊥)
    → ReadingWritten (Done (procedure_by l.source u) (trajectory_by l.source u) l.part-items l.part-index) l.initial.buffer l.at l.buffer l.end

abbrev pub invariant-write_passes-loop-m : goal.invariant-write_passes-loop-m
invariant-write_passes-loop-m l =
    (u : Unseen) → WritableBy Rest l.source l.fn.triple l.at (length l.initial.buffer) u → form_at (procedure_by l.source u) l.fn.triple.node ≡ While
    → Halfway (procedure_by l.source u) (trajectory_by l.source u) l.source.table.now l.fn.triple l.initial.buffer l.at l.m l.buffer l.end

abbrev pub decreases-write_passes-loop-m : goal.decreases-write_passes-loop-m
decreases-write_passes-loop-m l = l.e - l.m
