-- `history::tables::each_action` meets its contract. The invariant: what is given for the actions below `a` is stored. Assumes nothing.
use mathlib.Core.Path.{◌≡◌, refl}
use native.Mathlib.Omega.{arith}
use Rattle.words.proofs.Entries.{entries_alike}
use Rattle.history.proofs.tables.each_action.Goals as goal

pub loop-a-init : goal.loop-a-init
loop-a-init g c = record { size = refl; given = λ k l. absurd (omega arith); rest = λ k l. entries_alike (λ v. v ≡ 0) 64 0 refl refl k }
