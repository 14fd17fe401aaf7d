-- `ending::ends::narrow` meets its contract. The invariant: the masks have the first c conditions. Assumes nothing.
use native.Mathlib.Omega.{arith}
use lib.ListN.{length-set}
use Rattle.bitset.proofs.In.{in_both}
use Rattle.ending.proofs.Conditions.{met_mask, narrow_more}
use Rattle.ending.proofs.ends.narrow.Goals as goal

pub loop-c-preserved : goal.loop-c-preserved
loop-c-preserved c =
    let k = c.loop-c in
    let a = c.args in
    let qi = c.condition_i-i.ensures.0 in
    let n = a.tables.now.named k.c c.loop-c-test.true in
    record {
      four = simp length-set k.invariant.four;
      masks = narrow_more c.condition_i-i.result c.end_mask-mask.result c.inter.result qi k.invariant.four (omega (arith, n.0, qi, a.tables.now.few)) c.requires.small
          (λ e l. met_mask a.tables.now.conditions.now a.tables.now.allow a.begins k.c c.form_of-form.ensures.0 qi c.condition_j.ensures.0 c.partner-j.ensures
          (c.end_mask-mask.ensures e l))
          (λ e. in_both c.inter.ensures e)
          k.invariant.masks;
    }
