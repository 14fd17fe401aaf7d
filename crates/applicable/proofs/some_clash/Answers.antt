-- `applicable::some_clash` meets its contract: the search finds a start that has not finished and clashes. Assumes nothing.
use mathlib.Core.Bool.{Bool, ◌&&◌}
use mathlib.Core.Path.{◌≡◌, sym, ◌∙◌}
use Prim.Native.Nat.{ℕ}
use lib.Dec.{ltb}
use lib.ListN.{get_or}
use Rattle.std.proofs.Common.{rules, tests}
use Rattle.std.proofs.lemmas.Iterator.{YieldsList-from_slice}
use Rattle.std.proofs.lemmas.Iterator.Adapters.{serves_from_places}
use Rattle.std.proofs.lemmas.Iterator.Search.{any_from_yields_List}
use Rattle.words.specs.Fields.{start_action}
use Rattle.words.specs.Scan.{any}
use Rattle.words.proofs.Lists.{each_of}
use Rattle.words.proofs.Scan.{any-agree}
use Rattle.history.specs.Code.Tables.{tabled_finish}
use Rattle.history.proofs.Moments.{finish-tabled}
use Rattle.starts.specs.Rows.{clash}
use Rattle.starts.specs.Code.Given.{Paired}
use Rattle.applicable.proofs.Facing.{clashing-now, facing_at, facing_read, pair_of}
use Rattle.applicable.proofs.some_clash.Goals as goal

pub any-requires-clause-callable : goal.any-requires-clause-callable
any-requires-clause-callable c =
    serves_from_places (YieldsList-from_slice c.args.starts.now c.iter.ensures.rest) (λ x q k. search (rules, tests))
    (λ x k l e.
    let at = facing_read c.requires k l e in
    let small = at.tables.lasts.small in
    let paired : (b : ℕ) → b ≡ start_action x.now → Paired c.args.tables.now.job.now c.args.tables.now.effects.now b c.args.a = λ b q. pair_of at q in
    search (rules, small, paired))

pub returns : goal.returns
returns c =
    let args = c.args in
    let test : ℕ → Bool = λ s. ltb args.u (tabled_finish args.tables.now.durations.now s) && clash args.tables.now.job.now (start_action s) args.a in
    let found : c.any.result ≡ any test args.starts.now = any_from_yields_List test _ _ _ c.any.ensures.ran (YieldsList-from_slice _ c.iter.ensures.rest) (λ x b q k. search (rules, tests)) in
    found
    ∙ any-agree _ _ (each_of args.starts.now (λ i l.
    let at = facing_at c.requires i l in
    rw (finish-tabled at.tables.lasts (get_or args.starts.now i 0) at.action) (sym (clashing-now at))))
