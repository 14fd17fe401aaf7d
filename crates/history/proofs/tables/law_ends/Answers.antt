-- `history::tables::law_ends` meets its contract. Assumes nothing.
use mathlib.Core.Path.{◌≡◌, refl, ◌∙◌, ap}
use Prim.Native.Nat.{ℕ, ◌+◌}
use Rattle.std.proofs.Common.{rules}
use lib.ListN.{length, get_or, drop}
use Rattle.words.specs.Fields.{of_kind}
use Rattle.words.specs.Scan.{take_while}
use Rattle.history.proofs.LawsAt.{laws_counted}
use Rattle.history.proofs.tables.law_ends.Goals as goal

pub returns : goal.returns
returns c =
    let table = c.each_action.ensures in
    let p = c.requires in
    let job = c.args.job.now in
    let places = c.args.places.now in
    record {
      entry =
          λ a l.
          let read : get_or c.each_action.result a 0 ≡ get_or places a 0 + 1 + length (take_while (of_kind 4) (drop (get_or places a 0 + 1) job)) = search (rules, table.given a (rw c.actions_of.ensures.0 l)) in
          read ∙ ap (λ (n : ℕ). get_or places a 0 + 1 + n) (laws_counted p.0 p.1 l refl);
    }
