-- What x joins is in `joined` already, or is what the members that are left join.
use Rattle.bitset.proofs.Joins.{Split, InRow}
use Rattle.bitset.proofs.join_rows.Given as goal

abbrev pub invariant-loop-m : goal.invariant-loop-m
invariant-loop-m l = Split (InRow l.rows l.base) l.x l.joined l.m-iterator.left
