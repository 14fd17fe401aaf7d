-- The numbers up to the highest member, where there is one. Assumes nothing.
use Prim.Native.Nat.{ℕ, ◌≤◌}
use mathlib.Core.Path.{◌≡◌}
use mathlib.Core.Bool.{false}
use mathlib.Core.Logic.{by_cases}
use native.Mathlib.Decide.{dec_le}
use native.Mathlib.Omega.{arith}
use Rattle.bitset.specs.Code.Members.{has}
use Rattle.bitset.proofs.Bools.{not_both}
use Rattle.bitset.proofs.In.{in_below, in_upto, in_none}
use Rattle.bitset.proofs.upto_highest.Goals as goal

pub returns-in-Some : goal.returns-in-Some
returns-in-Some c k =
    let h = c.in-Some.ensures in
    let w = in_upto c.upto.ensures k in (
      λ u. record { member = _; in_x = record { yes = h.member }; upto = w.0 u },
      λ s. let l = s.upto in w.1 (by_cases (dec_le k c.in-Some.m) (λ g. g) (λ g.
          let b = in_below c.ranges.x.fits s.in_x in
          not_both s.in_x.yes (h.last s.member (omega arith) (omega arith)))),
    )

pub returns-in-None : goal.returns-in-None
returns-in-None c =
    let n : (k : ℕ) → k ≤ 63 → has c.args.x k ≡ false = c.in-None.ensures in
    in_none (λ k h. not_both h.in_x.yes (n h.member (let l = in_below c.ranges.x.fits h.in_x in omega arith)))
