-- `sets::bounds::fill` meets its contract. The invariant: the bounds have each placement that the table of ends has. Assumes nothing.
use Prim.Native.Nat.{ℕ, ◌+◌}
use mathlib.Core.Path.{◌≡◌, refl}
use lib.ListN.{get_or}
use Rattle.bitset.proofs.In.{in_zero}
use Rattle.keeping.specs.declared.Tables.{Tables}
use Rattle.sets.specs.Code.Tables.{BoundsFilled}
use Rattle.sets.proofs.bounds.fill.Goals as goal

-- bounds that are not filled leave nothing out
unfilled : (t : Tables) (a z : ℕ) → ((q : ℕ) → get_or t.bounds q 0 ≡ 0) → BoundsFilled t t a z
unfilled t a z none = record {
  bounded = λ bs es within ends w j f g t. in_zero (none (2048 + j)) t;
  masks = record { conditions = refl; count = refl; allow = refl };
  ends = refl;
  goes = refl;
  later = refl;
}

pub returns-then-is_short : goal.returns-then-is_short
returns-then-is_short c = unfilled c.args.tables.now _ _ c.requires

pub loop-p-init : goal.loop-p-init
loop-p-init c = unfilled c.args.tables.now _ _ c.requires

pub loop-p-preserved-in-Some-members_of : goal.loop-p-preserved-in-Some-members_of
loop-p-preserved-in-Some-members_of c =
    let h = c.loop-p.invariant in
    let m = c.in-Some-members_of.ensures in
    record {
      bounded = λ bs es within ends. c.fill_members.ensures c.args.tables.now.count bs es m.0 m.1 within (rw h.ends ends) (h.bounded bs es within ends);
      masks = record { conditions = h.masks.conditions; count = h.masks.count; allow = h.masks.allow };
      ends = h.ends;
      goes = h.goes;
      later = h.later;
    }
