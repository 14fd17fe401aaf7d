-- `shifts::shifts_of` meets its contract. The invariant: the sets are those of the words that have been taken. Assumes nothing.
use lib.ListN.{length, drop}
use Rattle.words.proofs.Back.{Back}
use Rattle.shifts.proofs.ShiftSets.{ShiftsIn}
use Rattle.shifts.proofs.shifts_of.Given as goal

abbrev pub invariant-loop-w : goal.invariant-loop-w
invariant-loop-w l = record {
  walk : Back l.job l.w-iterator.iter.rest.now;
  sets : ShiftsIn l.durations (drop (length l.w-iterator.iter.rest.now) l.job) l.windowed l.inside;
}
