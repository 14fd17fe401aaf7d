-- `starts::times::late_end` meets its contract: the search finds the first start that ends late. Assumes nothing.
use mathlib.Core.Path.{◌≡◌, ap, ◌∙◌}
use native.Mathlib.Omega.{arith}
use lib.Dec.{ltb}
use Rattle.std.specs.Prelude.{position}
use Rattle.std.proofs.Common.{rules, tests}
use Rattle.std.proofs.lemmas.Iterator.{YieldsList-from_slice}
use Rattle.std.proofs.lemmas.Iterator.Search.{position_from_yields_List}
use Rattle.history.specs.Code.Tables.{tabled_finish}
use Rattle.starts.specs.Rows.{ends_late}
use Rattle.starts.proofs.Rows.{row-sought}
use Rattle.starts.proofs.StartsFormed.{finish-is}
use Rattle.starts.proofs.times.late_end.Goals as goal
use Rattle.answers.specs.Code.Ruled.{refused_at}

pub returns : goal.returns
unfolding ends_late
returns c =
    let found : c.position.result ≡ position (λ s. ltb c.last_of-last.result (tabled_finish c.args.tables.now.durations.now s)) c.args.starts.now = position_from_yields_List _ _ _ c.position.result c.position.ensures.ran (YieldsList-from_slice _ c.iter.ensures.rest) (λ x b q k. search (rules, tests)) in
    c.refused_at.ensures
    ∙ ap (refused_at 7) found
    ∙ row-sought 7 (ends_late c.args.tables.now.job.now c.args.starts.now) (λ s. ltb c.last_of-last.result (tabled_finish c.args.tables.now.durations.now s)) c.args.starts.now (omega arith)
    (λ i l. rw (c.last_of-last.ensures.0, finish-is c.requires.lasts c.requires.words i l))
