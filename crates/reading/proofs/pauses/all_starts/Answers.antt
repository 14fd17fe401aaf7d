-- `reading::pauses::all_starts` meets its contract: each step of the fold takes one more action's start moments over. Assumes nothing.
use mathlib.Core.List.{List}
use mathlib.Core.Path.{subst}
use Prim.Native.Nat.{ℕ}
use Rattle.std.proofs.Common.{rules}
use Rattle.std.proofs.lemmas.Fn.{fold_over, slice_gives, fronts}
use Rattle.reading.specs.Code.Quiet.{start_in, AllStarts}
use Rattle.reading.proofs.Quiet.{started_none, started-more}
use Rattle.reading.proofs.pauses.all_starts.Goals as goal

pub returns : goal.returns
returns c =
    subst (λ (sets : List ℕ). AllStarts (start_in sets) c.fold.result) c.iter.ensures.rest
    (fold_over fronts (λ y. y.now) _ (λ sets started. AllStarts (start_in sets) started) _ (λ sets a x b f' s called. search (rules, started-more))
    _ _ _ _ (slice_gives c.iter.result) started_none c.fold.ensures.ran)
