-- `sets::conditions::failing` meets its contract. Assumes nothing.
use mathlib.Core.Path.{◌≡◌}
use Rattle.std.proofs.Common.{rules}
use Rattle.words.specs.Fields.{holds}
use Rattle.model.specs.Code.Arrays.{value_in}
use Rattle.sets.proofs.Masks.{picked_is}
use Rattle.sets.proofs.conditions.failing.Goals as goal

pub returns : goal.returns
returns c = λ t l g.
    let h = picked_is (λ t. value_in c.args.values.now c.args.k t ≡ holds → ⊥) (λ t r l g m. search rules) c.moments_where.ensures t in
    (λ u. (h.0 u).2, λ n. h.1 (l, g, n))
