-- `history::states::initial_state` meets its contract. Assumes nothing.
use mathlib.Core.Bool.{cond}
use mathlib.Core.Path.{◌≡◌}
use Rattle.std.proofs.Common.{rules, Some, None}
use lib.Dec.{eqb}
use Rattle.words.specs.Fields.{kind, fluent_of, known_value}
use Rattle.job.specs.Parts.{head_word}
use Rattle.history.specs.Values.{lists, initially, value_at}
use Rattle.history.proofs.Stores.{overlaid_open, reads_one}
use native.Mathlib.Omega.{arith}
use Rattle.history.proofs.states.initial_state.Goals as goal

pub returns : goal.returns
unfolding initially value_at
returns c =
    let few = c.requires.few_fluents in
    let head = head_word c.args.job.now in
    let o =
    c.row_of.ensures (lists head) (λ f. known_value head)
    (λ w r l post.
    let read : r ≡ cond (eqb (kind w) 2) (Some (fluent_of head w, known_value head w)) None = search (rules, post) in
    reads_one (λ v. eqb (kind v) 2) (fluent_of head) (known_value head) w read) in
    record { room = omega (arith, o.size); value = λ f l. overlaid_open o f (omega arith) }
