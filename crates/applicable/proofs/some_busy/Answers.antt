-- `applicable::some_busy` meets its contract: the search finds a start of the action that is in hand. Assumes nothing.
use mathlib.Core.Bool.{Bool, ◌&&◌}
use mathlib.Core.Path.{◌≡◌, ◌∙◌}
use Prim.Native.Nat.{ℕ}
use lib.Dec.{eqb, leb, ltb}
use lib.ListN.{get_or}
use Rattle.std.proofs.Common.{rules, tests}
use Rattle.std.proofs.lemmas.Iterator.{YieldsList-from_slice}
use Rattle.std.proofs.lemmas.Iterator.Search.{any_from_yields_List}
use Rattle.words.specs.Fields.{start_action, start_moment}
use Rattle.words.specs.Scan.{any}
use Rattle.words.proofs.Lists.{each_of}
use Rattle.words.proofs.Scan.{any-agree}
use Rattle.history.specs.Code.Tables.{tabled_finish}
use Rattle.history.proofs.Moments.{finish-tabled}
use Rattle.applicable.proofs.some_busy.Goals as goal

pub returns : goal.returns
returns c =
    let args = c.args in
    let test : ℕ → Bool = λ s. eqb (start_action s) args.a && (leb (start_moment s) args.u && ltb args.u (tabled_finish args.tables.now.durations.now s)) in
    let found : c.any.result ≡ any test args.starts.now = any_from_yields_List test _ _ _ c.any.ensures.ran (YieldsList-from_slice _ c.iter.ensures.rest) (λ x b q k. search (rules, tests)) in
    found ∙ any-agree _ _ (each_of args.starts.now (λ i l. rw (finish-tabled c.requires.0 (get_or args.starts.now i 0) (c.requires.1.action i l))))
