-- `trial::Trial::is_outside` meets its contract: one of three tests. Assumes nothing.
use mathlib.Core.Path.{◌≡◌, sym, ◌∙◌}
use Prim.Native.Nat.{◌≤◌, ◌<◌}
use borrow.Author.Rules.{rules}
use native.Mathlib.Omega.{arith}
use lib.ListN.{length}
use lib.Seq.{length-take-le}
use Rattle.job.specs.Parts.{last_moment}
use Rattle.trial.proofs.Judging.{too_many, too_far, else_late}
use Rattle.trial.proofs.Trial.is_outside.Goals as goal

pub returns-then-self-gt-MOST_STARTS : goal.returns-then-self-gt-MOST_STARTS
returns-then-self-gt-MOST_STARTS c =
    let size : length c.args.self.now.starts ≡ 4096 = search rules in
    record { bounds = too_many c.args.job.now c.args.self.now c.if-self-gt-MOST_STARTS.true; size = size }

pub returns-then-last_of-self : goal.returns-then-last_of-self
returns-then-last_of-self c =
    let size : length c.args.self.now.starts ≡ 4096 = search rules in
    let few : c.args.self.now.length ≤ 4096 = omega (arith, c.if-self-gt-MOST_STARTS.false) in
    let late : last_moment c.args.job.now < c.args.self.now.moment = omega (arith, c.last_of.ensures.0, c.if-last_of-self.true) in
    record { bounds = too_far c.args.job.now c.args.self.now few late; size = size }

pub slice_bounds-some_later-end : goal.slice_bounds-some_later-end
slice_bounds-some_later-end c =
    let size : length c.args.self.now.starts ≡ 4096 = search rules in
    let few : c.args.self.now.length ≤ 4096 = omega (arith, c.if-self-gt-MOST_STARTS.false) in
    sym (length-take-le _ _ (omega (arith, few, size)))

pub returns : goal.returns
returns c =
    let size : length c.args.self.now.starts ≡ 4096 = search rules in
    let few : c.args.self.now.length ≤ 4096 = omega (arith, c.if-self-gt-MOST_STARTS.false) in
    let upto : c.args.self.now.moment ≤ last_moment c.args.job.now = omega (arith, c.last_of.ensures.0, c.if-last_of-self.false) in
    record { bounds = c.some_later.ensures ∙ else_late c.args.job.now c.args.self.now few size upto; size = size }
