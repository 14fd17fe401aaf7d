-- A packed answer reads back field by field. Assumes nothing.
use mathlib.Core.Path.{◌≡◌}
use Prim.Native.Nat.{ℕ}
use native.Mathlib.Omega.{arith}
use Rattle.answers.specs.declared.Answer.{Answer}
use Rattle.answers.specs.Packed.{packed, Unpacked}
use Rattle.answers.specs.Code.Packed.{InRange}

unpacked : (a : Answer) → InRange a → Unpacked (packed a) a
unpacked a h =
    record { number = omega (arith, h); position = omega (arith, h); length = omega (arith, h); count = omega (arith, h); fits = omega (arith, h) }

pub reads_back : {r : ℕ} {a : Answer} → r ≡ packed a → InRange a → Unpacked r a
reads_back {r} {a} e h = rw e (unpacked a h)
