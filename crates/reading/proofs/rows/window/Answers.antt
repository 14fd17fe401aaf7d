-- `reading::rows::window` meets its contract. Assumes nothing.
use native.Mathlib.Omega.{arith}
use Rattle.bitset.proofs.In.{in_none}
use Rattle.reading.proofs.rows.window.Goals as goal

pub returns-then-last-first : goal.returns-then-last-first
returns-then-last-first c = in_none (λ m h. omega (arith, h.0, h.2))
