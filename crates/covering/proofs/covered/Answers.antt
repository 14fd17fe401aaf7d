-- `covering::covered` meets its contract. The invariant: from the end `least` on, the members before i ask nothing more. Assumes nothing.
use native.Mathlib.Omega.{arith}
use Rattle.bitset.proofs.Bools.{not_both}
use Rattle.bitset.proofs.In.{in_none, in_both, in_from}
use Rattle.covering.proofs.Needs.{all_more}
use Rattle.covering.proofs.covered.Goals as goal

pub returns-then-not-begins_at : goal.returns-then-not-begins_at
returns-then-not-begins_at c = in_none (λ e h. not_both (c.begins_at.ensures.1 h.first) c.if-not-begins_at.true)

pub loop-i-init : goal.loop-i-init
loop-i-init c = record { moment = omega arith; needs = λ e l. (λ h j k. absurd (omega arith), λ h. omega arith) }

pub returns-in_default : goal.returns-in_default
returns-in_default c = in_none (λ e h. let k = h.last in (c.in_default.ensures.least e (c.requires.0.ends k.at e k.below k.is)).1 (h.needs c.loop-i.i c.loop-i-test.true))

pub loop-i-preserved : goal.loop-i-preserved
loop-i-preserved c = let k = c.loop-i in
    record {
      moment = omega (arith, c.in-Some.ensures.moment);
      needs = λ e l. all_more (k.invariant.needs e l) (c.in-Some.ensures.least e l) (λ h. (omega arith, omega arith), λ h. let u = h.0 in let v = h.1 in omega arith);
    }

pub returns : goal.returns
returns c = λ e.
    let both = in_both c.inter.ensures e in
    let late = in_from c.from.ensures e in
    let some = c.ends_before.ensures e in (
      λ t. let p = both.0 t in let j = some.0 p.0 in let l = late.0 p.1 in record {
        last = record { at = j.at; below = j.below; is = j.is.1 };
        first = c.begins_at.ensures.0 c.if-not-begins_at.false;
        needs = λ i g. (c.loop-i.invariant.needs e l.1).0 l.0 i (omega arith);
      },
      λ h. let j = h.last in let l = c.requires.0.ends j.at e j.below j.is in
          both.1 (some.1 (record { at = j.at; below = j.below; is = (c.requires.0.begins j.at j.below, j.is) }), late.1 ((c.loop-i.invariant.needs e l).1 (λ i g. h.needs i (omega arith)), l)),
    )
