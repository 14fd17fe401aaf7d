-- `starts::clashes::clashes_after` meets its contract: the search finds an action that clashes and is in hand. Assumes nothing.
use mathlib.Core.Bool.{◌&&◌}
use mathlib.Core.Path.{◌≡◌, refl, ◌∙◌}
use Prim.Native.Nat.{◌+◌, ◌*◌}
use native.Mathlib.Omega.{arith}
use lib.Dec.{eqb, ltb}
use lib.ListN.{get_or}
use Rattle.std.proofs.Common.{rules}
use Rattle.std.proofs.lemmas.Iterator.{YieldsList-from_range}
use Rattle.std.proofs.lemmas.Iterator.Search.{any_from_yields_List}
use Rattle.std.specs.List.{range_with_len}
use Rattle.words.specs.Scan.{any}
use Rattle.starts.proofs.ClashTable.{clash_sought}
use Rattle.starts.proofs.clashes.clashes_after.Goals as goal

pub returns : goal.returns
returns c =
    let sought : let args = c.args in c.any.result ≡ any (λ a. ltb args.u (get_or args.latest.now a 0) && eqb (get_or args.table.now (args.b * 64 + a) 0) 1) (range_with_len 0 c.actions_of-n.result) = any_from_yields_List _ _ _ _ c.any.ensures.ran (YieldsList-from_range 0 c.actions_of-n.result c.actions_of-n.result refl (omega arith)) (λ x b q k. search rules) in
    sought ∙ rw c.actions_of-n.ensures.0 (clash_sought c.requires c.args.u)
