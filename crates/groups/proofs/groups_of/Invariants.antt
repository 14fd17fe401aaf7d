-- `groups::groups_of` meets its contract. The invariant: the table is that of the words that have been taken. Assumes nothing.
use lib.ListN.{length, drop}
use Rattle.words.proofs.Back.{Back}
use Rattle.groups.proofs.GroupTable.{GroupsIn}
use Rattle.groups.proofs.groups_of.Given as goal

abbrev pub invariant-loop-w : goal.invariant-loop-w
invariant-loop-w l = record {
  walk : Back l.job l.w-iterator.iter.rest.now;
  table : GroupsIn (drop (length l.w-iterator.iter.rest.now) l.job) l.all;
}
