-- `finder::seek` meets its contract, by what the table and the writer give in the job's definitions. Assumes nothing.
use mathlib.Core.Path.{refl, sym, ◌∙◌}
use Prim.Native.Nat.{◌≤◌, ◌<◌}
use native.Mathlib.Omega.{arith}
use Rattle.reading.proofs.Tables.{blank}
use Rattle.finder.proofs.Seeking.{readable, some_node, few_nodes, few_moments, emit_ready, written-reading, no_reading}
use Rattle.finder.proofs.seek.Goals as goal
use Rattle.finder.proofs.seek.Goals.{After-tabulate-count}

-- there is a root, and nodes and moments are below 64
nodes : (f : After-tabulate-count) → (1 ≤ f.args.arrays.now.count) × (f.args.arrays.now.count ≤ 64)
nodes f = let s = f.requires in (some_node _ _ _ s.clear s.represented, few_nodes _ _ _ s.clear s.represented)

moments : (f : After-tabulate-count) → f.args.arrays.now.last < 64
moments f = let s = f.requires in few_moments _ _ _ s.clear s.represented

pub tabulate-count-requires : goal.tabulate-count-requires
tabulate-count-requires c = let s = c.requires in (readable _ _ _ s.clear s.represented, blank 4096 refl, c.all_starts-started.ensures)

pub overflow_sub-arrays : goal.overflow_sub-arrays
overflow_sub-arrays c = omega (arith, nodes (goal.at.overflow_sub-arrays c).After-tabulate-count)

pub has_end-requires : goal.has_end-requires
has_end-requires c =
    record { node = omega (arith, nodes (goal.at.has_end-requires c).After-tabulate-count); begin = omega (arith, moments (goal.at.has_end-requires c).After-tabulate-count); end = omega (arith, moments (goal.at.has_end-requires c).After-tabulate-count); size = c.tabulate-count.ensures.table.size }

pub emit-length-requires : goal.emit-length-requires
emit-length-requires c =
    let s = c.requires in
    let w = c.args.arrays.now in
    (w.starts, w.durations, emit_ready _ _ _ s.clear s.represented c.tabulate-count.ensures c.all_starts-started.ensures (sym c.has_end.ensures ∙ c.if-has_end.true) (omega (arith, s.room)))

pub returns-then-has_end : goal.returns-then-has_end
returns-then-has_end c =
    let s = c.requires in
    let w = c.args.arrays.now in
    let root = sym c.has_end.ensures ∙ c.if-has_end.true in
    let emitted = c.emit-length.ensures w.starts w.durations (emit_ready _ _ _ s.clear s.represented c.tabulate-count.ensures c.all_starts-started.ensures root (omega (arith, s.room))) in record {
      searched = written-reading _ _ _ s.clear s.represented c.tabulate-count.ensures emitted;
      in_range = (omega (arith, emitted.few, c.tabulate-count.ensures.small), omega (arith, emitted.few));
    }

pub returns : goal.returns
returns c =
    let s = c.requires in record {
      searched = rw c.from.ensures (no_reading _ _ _ s.clear s.represented c.tabulate-count.ensures (sym c.has_end.ensures ∙ c.if-has_end.false));
      in_range = (omega (arith, c.tabulate-count.ensures.small), omega arith);
    }
