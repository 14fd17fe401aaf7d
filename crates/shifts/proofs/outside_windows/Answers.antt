-- `shifts::outside_windows` meets its contract: the search finds the first start outside its windows. Assumes nothing.
use mathlib.Core.Bool.{not, ◌||◌}
use mathlib.Core.Path.{◌≡◌, refl, ap, sym, ◌∙◌}
use native.Mathlib.Omega.{arith}
use lib.ListN.{get_or}
use Rattle.std.specs.Prelude.{position}
use Rattle.std.proofs.Common.{rules, tests}
use Rattle.std.proofs.lemmas.Iterator.{YieldsList-from_slice}
use Rattle.std.proofs.lemmas.Iterator.Search.{position_from_yields_List}
use Rattle.words.specs.Fields.{start_moment, start_action}
use Rattle.bitset.specs.Code.Members.{has}
use Rattle.starts.specs.Rows.{outside_windows}
use Rattle.starts.proofs.Rows.{row-sought}
use Rattle.starts.proofs.StartsFormed.{right_word}
use Rattle.shifts.proofs.ShiftSets.{may_start-read}
use Rattle.shifts.proofs.outside_windows.Goals as goal
use Rattle.answers.specs.Code.Ruled.{refused_at}

pub returns : goal.returns
unfolding outside_windows
returns c =
    let found : c.position.result ≡ position (λ s. not (not (has c.args.shifts.now.windowed (start_action s)) || has (get_or c.args.shifts.now.inside (start_action s) 0) (start_moment s))) c.args.starts.now = position_from_yields_List _ _ _ c.position.result c.position.ensures.ran (YieldsList-from_slice _ c.iter.ensures.rest) (λ x b q k. search (rules, tests)) in
    c.refused_at.ensures
    ∙ ap (refused_at 15) found
    ∙ row-sought 15 (outside_windows c.args.job.now c.args.starts.now) _ c.args.starts.now (omega arith)
    (λ i l. ap not (sym (may_start-read c.requires.0 _ _ refl refl refl (right_word c.requires.1 i l).action)))
