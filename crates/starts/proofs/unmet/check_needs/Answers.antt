-- `starts::unmet::check_needs` meets its contract. The invariant: the row fits no word before `i`. Assumes nothing.
use mathlib.Core.Path.{◌≡◌, ◌∙◌}
use Rattle.starts.specs.Rows.{needs_unmet}
use Rattle.starts.proofs.Rows.{tried_start, tried_more, tried_found, tried_end}
use Rattle.starts.proofs.Needs.{unmet-read}
use Rattle.starts.proofs.StartsFormed.{right_word}
use native.Mathlib.Omega.{arith}
use Rattle.starts.proofs.unmet.check_needs.Goals as goal

pub loop-i-init : goal.loop-i-init
loop-i-init c = tried_start

pub laws_of-laws-requires : goal.laws_of-laws-requires
laws_of-laws-requires c =
    let pre = c.requires in
    (pre.rules, rw c.start_action.ensures.0 (right_word pre.words _ c.loop-i-test.true).action)

pub returns-then-has_unmet : goal.returns-then-has_unmet
returns-then-has_unmet c =
    let value : needs_unmet c.args.tables.now.job.now c.args.starts.now c.loop-i.i ≡ c.has_unmet.result = unmet-read c.requires c.loop-i-test.true
    c.start_action.ensures.0 c.laws_of-laws.ensures c.start_moment.ensures.0 c.has_unmet.ensures in
    rw c.refuse.ensures (tried_found c.loop-i.invariant (omega arith) c.loop-i-test.true (value ∙ c.if-has_unmet.true))

pub loop-i-preserved : goal.loop-i-preserved
loop-i-preserved c =
    let value : needs_unmet c.args.tables.now.job.now c.args.starts.now c.loop-i.i ≡ c.has_unmet.result = unmet-read c.requires c.loop-i-test.true
    c.start_action.ensures.0 c.laws_of-laws.ensures c.start_moment.ensures.0 c.has_unmet.ensures in
    tried_more c.loop-i.invariant c.loop-i-test.true (value ∙ c.if-has_unmet.false)

pub returns : goal.returns
returns c = tried_end c.loop-i.invariant (omega arith)
