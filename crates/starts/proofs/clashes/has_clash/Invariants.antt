-- `starts::clashes::has_clash` meets its contract. The invariant: whether the actions are opposed on a fluent below `f` is found. Assumes nothing.
use mathlib.Core.Path.{◌≡◌}
use Rattle.words.specs.Scan.{any_below}
use Rattle.starts.specs.Rows.{opposed}
use Rattle.starts.proofs.clashes.has_clash.Given as goal

abbrev pub invariant-loop-f : goal.invariant-loop-f
invariant-loop-f l = l.found ≡ any_below (opposed l.tables.job.now l.a l.b) l.f
