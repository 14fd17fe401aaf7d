-- The members of a row are counted by the set digits of its word. Assumes nothing.
use Rattle.std.proofs.Common.{rules, ◌≡◌}
use Rattle.std.specs.List.{sum_by}
use mathlib.Core.Path.{◌∙◌}
use lib.Count.{ones}
use Rattle.bitset.proofs.Counts.{pairs_counted}
use Rattle.bitset.proofs.count_all.Goals as goal

pub returns : goal.returns
returns c =
    let total : c.sum.result ≡ sum_by ones c.args.rows.now = search rules in
    total ∙ pairs_counted c.args.rows.now (λ i. (c.type_inv.rows i).fits)
