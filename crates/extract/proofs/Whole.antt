-- What `emit` asks is enough for the writer, by the length bound, and what the writer leaves is what `emit` promises. Assumes nothing.
use Prim.Native.Nat.{ℕ, ◌-◌, ◌≤◌, ◌<◌}
use mathlib.Core.Path.{◌≡◌}
use mathlib.Core.List.{List}
use native.Mathlib.Nat.{le_refl, le_trans}
use native.Mathlib.Omega.{arith}
use lib.ListN.{length}
use Rattle.model.specs.Code.Table.{InTable}
use Rattle.model.specs.Trajectory.{Trajectory}
use Rattle.model.specs.Procedure.{Procedure}
use Rattle.reading.specs.Reading.{whole, Reading}
use Rattle.model.specs.Code.Forms.{NamedOnce}
use Rattle.lengths.specs.Code.Bound.{length_bound}
use Rattle.lengths.proofs.Words.{lower}
use Rattle.lengths.proofs.Length.{length-le, bound_4032}
use Rattle.extract.specs.Code.Parts.{Prepared}
use Rattle.extract.specs.Code.Contract.{Full, Writable, ReadingWritten, Emittable, Emitted}
use Rattle.extract.proofs.Written.{written-parts}

module _ {P : Procedure} {T : Trajectory} {started job : ℕ} {places table : List ℕ} {size : ℕ} (s : Emittable P T started job places table size) where
  root_le : {ws : List ℕ} → Reading P T whole (P.count - 1) 0 T.last ws → length ws ≤ length_bound P T.last
  root_le r = let some = s.some in length-le (lower s.prepared.ready.formed) s.once T.last (omega arith) r (le_refl T.last)

  pub emit_writable : Writable Full P T started job places table (record { node = P.count - 1; begin = 0; end = T.last }) 0 size
  emit_writable =
      let some = s.some in
      record { prepared = s.prepared; known = omega arith; within = omega arith; found = s.found; room = λ ws r. omega (arith, root_le r, s.room) }

  pub emit_emitted : {l l' : List ℕ} {end : ℕ} → length l ≡ size → ReadingWritten (Reading P T whole (P.count - 1) 0 T.last) l 0 l' end → Emitted P T l l' end
  emit_emitted {end = end} e w =
      let within : end ≤ length_bound P T.last = omega (arith, w.ended, root_le w.allowed) in
      record {
        words = w.words;
        reading = w.allowed;
        counted = omega (arith, w.ended);
        bounded = within;
        few = le_trans within (bound_4032 P T.last s.prepared.ready.few s.prepared.ready.moments);
        buffer = written-parts w (omega (arith, s.room));
      }

-- 4,032 words are room enough
pub emittable : {P : Procedure} {T : Trajectory} {started job : ℕ} {places table : List ℕ} {size : ℕ} → Prepared P T started job places table
    → NamedOnce P → 0 < P.count → InTable table (P.count - 1) 0 T.last → 4032 ≤ size → Emittable P T started job places table size
emittable {P} {T} s once some found room =
    record {
      prepared = s;
      once = once;
      some = some;
      found = found;
      room = le_trans (bound_4032 P T.last s.ready.few s.ready.moments) room;
    }
