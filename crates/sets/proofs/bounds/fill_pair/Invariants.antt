-- `sets::bounds::fill_pair` meets its contract. The later ends are joined from the last down, the sooner ones from the first up.
use Prim.Native.Nat.{◌-◌}
use Rattle.sets.proofs.bounds.fill_pair.Given as goal

abbrev pub ghost-join : goal.ghost-join
ghost-join a = λ k. 63 - k

abbrev pub ghost-join-2 : goal.ghost-join-2
ghost-join-2 a = λ k. k
