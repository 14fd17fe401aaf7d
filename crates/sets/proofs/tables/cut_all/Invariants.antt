-- `sets::tables::cut_all` meets its contract. The invariant: what the conditions before c leave is in the tables. Assumes nothing.
use Prim.Native.Nat.{ℕ, ◌≤◌, ◌<◌}
use lib.ListN.{get_or}
use Rattle.words.specs.Fields.{condition_i, condition_j}
use Rattle.ending.specs.Code.Ends.{MetByMask}
use Rattle.sets.specs.Code.Tables.{Have, InSpan, SameElse}
use Rattle.sets.proofs.tables.cut_all.Given as goal

abbrev pub invariant-loop-c : goal.invariant-loop-c
invariant-loop-c l =
    SameElse l.initial.tables l.tables × ((count : ℕ) (bs es : ℕ → ℕ) → InSpan count l.span.a l.span.z bs es → count ≤ 4
    → ((d : ℕ) → d < l.c → (condition_i (get_or l.conds d 0) < count) × (condition_j (get_or l.conds d 0) < count)
    × MetByMask l.conds l.initial.tables.allow bs d (es (condition_i (get_or l.conds d 0))))
    → Have l.initial.tables.ends l.initial.tables.goes count bs es → Have l.tables.ends l.tables.goes count bs es)
