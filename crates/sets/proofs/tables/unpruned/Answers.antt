-- `sets::tables::unpruned` meets its contract. Assumes nothing.
use mathlib.Core.Path.{refl}
use Rattle.bitset.proofs.In.{empty_entry}
use Rattle.sets.proofs.Stored.{every-unpruned}
use Rattle.sets.proofs.tables.unpruned.Goals as goal

pub returns : goal.returns
returns c = let every = every-unpruned c.from-every.result c.from-every.ensures in
    record { conditions = refl; count = refl; ends = every; goes = every; bounds = λ q. empty_entry 2052 q }
