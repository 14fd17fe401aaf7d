-- `starts::clashes::has_clash` meets its contract. The invariant: whether the actions are opposed on a fluent below `f` is found. Assumes nothing.
use mathlib.Core.Path.{◌≡◌, refl}
use Prim.Native.Nat.{◌<◌}
use native.Mathlib.Numerals.{add-one}
use Rattle.words.specs.Scan.{any_below}
use Rattle.job.specs.Parts.{fluents}
use Rattle.starts.specs.Rows.{clash}
use Rattle.starts.proofs.ClashTable.{opposed-read}
use native.Mathlib.Omega.{arith}
use Rattle.starts.proofs.clashes.has_clash.Goals as goal

pub loop-f-init : goal.loop-f-init
unfolding any_below
loop-f-init c = refl

pub loop-f-preserved : goal.loop-f-preserved
unfolding any_below
loop-f-preserved c =
    let below : c.loop-f.f < fluents c.args.tables.now.job.now = omega (arith, c.fluents_of-n.ensures.0) in
    rw (c.loop-f.invariant, add-one c.loop-f.f, opposed-read c.requires _ below)

pub returns : goal.returns
unfolding clash
returns c =
    let e : c.loop-f.f ≡ fluents c.args.tables.now.job.now = omega (arith, c.fluents_of-n.ensures.0) in
    rw e at c.loop-f.invariant
