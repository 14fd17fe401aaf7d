-- `theory::moments::start_moments` meets its contract. The invariant: the sets are those of the starts that have been taken. Assumes nothing.
use lib.ListN.{length, drop}
use Rattle.words.proofs.Back.{Back}
use Rattle.bitset.proofs.SetTable.{SetTable}
use Rattle.theory.specs.Trajectory.{is_start_of}
use Rattle.theory.proofs.moments.start_moments.Given as goal

abbrev pub invariant-loop-s : goal.invariant-loop-s
invariant-loop-s l = record {
  walk : Back l.starts l.s-iterator.iter.rest.now;
  sets : SetTable is_start_of (drop (length l.s-iterator.iter.rest.now) l.starts) l.moments;
}
