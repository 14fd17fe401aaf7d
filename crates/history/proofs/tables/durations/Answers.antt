-- `history::tables::durations` meets its contract. Assumes nothing.
use mathlib.Core.Logic.{by_cases}
use mathlib.Core.Path.{◌≡◌, ◌∙◌, sym}
use Prim.Native.Nat.{ℕ, ◌<◌}
use native.Mathlib.Decide.{dec_lt}
use native.Mathlib.Omega.{arith}
use Rattle.std.proofs.Common.{rules}
use lib.ListN.{get_or}
use Rattle.words.specs.Fields.{duration_of}
use Rattle.job.proofs.ByPlace.{duration-place, action_counted}
use Rattle.history.proofs.tables.durations.Goals as goal

pub returns : goal.returns
returns c =
    let table = c.each_action.ensures in
    let job = c.args.job.now in
    let places = c.args.places.now in
    let read : (a : ℕ) → a < c.actions_of.result → (get_or c.each_action.result a 0 ≡ duration_of (get_or job (get_or places a 0) 0)) × (get_or c.each_action.result a 0 < 64) = λ a l. search (rules, table.given a l) in
    record {
      entry = λ a l. (read a (rw c.actions_of.ensures.0 l)).0 ∙ sym (duration-place c.requires.1 a (action_counted c.requires.0 l));
      small = λ a. by_cases (dec_lt a c.actions_of.result) (λ l. (read a l).1) (λ l. omega (arith, table.rest a (omega arith)));
    }
