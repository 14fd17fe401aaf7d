-- `history::carry::Held::hold_first` meets its contract: the starts that lead and begin at moment 0 are all that do. Assumes nothing.
use mathlib.Core.List.{List}
use mathlib.Core.Path.{◌≡◌, ap, sym, ◌∙◌}
use Prim.Native.Nat.{ℕ, ◌≤◌}
use native.Mathlib.Omega.{arith}
use lib.ListN.{length, drop}
use Rattle.words.specs.Scan.{take_while}
use Rattle.history.specs.Held.{begins_at, Ascending}
use Rattle.history.proofs.HeldList.{begun_none, begun_starting, begun_first}
use Rattle.history.proofs.Held.{held_start}
use Rattle.history.proofs.carry.Held.hold_first.Goals as goal

-- no more starts lead than there are
fits : {S first : List ℕ} {room : ℕ} → Ascending S → first ≡ take_while (begins_at 0) (drop 0 S) → length S ≤ room → length first ≤ room
fits ascends e few = omega (arith, ap length e, (begun_first ascends).inside, few)

pub hold-requires : goal.hold-requires
hold-requires c = fits c.requires.0 c.starting_at.ensures c.requires.1

pub returns : goal.returns
returns c job lasting =
    record {
      inside = rw c.hold.new.self.size c.hold.new.self.inside;
      words = c.hold.ensures.1 ∙ c.starting_at.ensures ∙ begun_starting c.requires.0 begun_none ∙ sym (held_start job c.args.starts.now lasting);
    }
