-- `history::tables::effects_row` meets its contract. Assumes nothing.
use mathlib.Core.Bool.{cond}
use mathlib.Core.Path.{◌≡◌}
use Rattle.std.proofs.Common.{rules, Some, None}
use Rattle.words.specs.Fields.{role_of, makes, fluent_of}
use Rattle.history.specs.Actions.{law_value}
use Rattle.history.proofs.Stores.{reads_one}
use Rattle.history.proofs.tables.effects_row.Goals as goal

pub returns : goal.returns
returns c =
    let head = c.args.head in
    c.row_of.ensures _ _
    (λ w r l post.
    let read : r ≡ cond (makes (role_of head w)) (Some (fluent_of head w, law_value head w)) None = search (rules, post) in
    reads_one (λ v. makes (role_of head v)) (fluent_of head) (law_value head) w read)
