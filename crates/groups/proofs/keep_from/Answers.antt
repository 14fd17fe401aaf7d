-- `groups::keep_from` meets its contract: at the same moment all stay. Assumes nothing.
use mathlib.Core.Path.{sym}
use native.Mathlib.Omega.{arith}
use Rattle.words.proofs.Filter.{filter-all}
use Rattle.history.specs.Code.Held.{unfinished_by}
use Rattle.groups.proofs.keep_from.Goals as goal

pub returns-else-t-u : goal.returns-else-t-u
returns-else-t-u c = record { few = omega arith; words = rw (← c.if-t-u.false) (sym (filter-all (unfinished_by c.args.durations.now c.args.t) c.requires.2)) }
