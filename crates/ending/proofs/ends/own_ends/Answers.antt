-- `ending::ends::own_ends` meets its contract. The invariant: the masks before i are those of the own rows. Assumes nothing.
use Prim.Native.Nat.{ℕ, ◌<◌}
use mathlib.Core.Path.{◌≡◌, refl}
use native.Mathlib.Omega.{arith}
use lib.ListN.{length-set}
use Rattle.bitset.specs.Code.Members.{In}
use Rattle.bitset.proofs.In.{in_zero, in_below, empty_entry}
use Rattle.covering.specs.Code.Cover.{entry_at}
use Rattle.keeping.specs.Code.Tables.{pair_at}
use Rattle.words.proofs.Entries.{entries_set, entries_more}
use Rattle.ending.proofs.ends.own_ends.Goals as goal

pub loop-i-init : goal.loop-i-init
loop-i-init c = record { four = refl; rows = λ j l. absurd (omega arith); small = λ j e t. in_zero (empty_entry 4 j) t }

pub loop-i-preserved : goal.loop-i-preserved
loop-i-preserved c = let l = c.loop-i in
    record {
      four = simp length-set l.invariant.four;
      rows = entries_more (λ j. j) (λ j w. w ≡ pair_at c.args.tables.now.ends j j (entry_at c.args.begins j)) l.r l.i c.pair_at.result (omega arith) (λ j g q. omega arith) l.invariant.rows c.pair_at.ensures;
      small = entries_set (λ j w. (e : ℕ) → In w e → e < 64) l.r l.i c.pair_at.result (omega arith) (λ e. in_below c.pair_at.type_inv) l.invariant.small;
    }
