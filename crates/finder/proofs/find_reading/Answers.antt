-- `finder::find_reading` meets its contract: a row's refusal, or what `seek` finds. Assumes nothing.
use mathlib.Core.List.{List}
use mathlib.Core.Path.{◌≡◌, sym, ap, ◌∙◌}
use Prim.Native.Nat.{ℕ, ◌<◌, ◌^◌, ◌≤◌}
use native.Mathlib.Omega.{arith}
use lib.ListN.{length, get_or}
use Rattle.answers.specs.declared.Answer.TheVariants.{Refused}
use Rattle.answers.specs.declared.Refusal.{Refusal}
use Rattle.answers.specs.Packed.{length_of}
use Rattle.answers.specs.Code.Packed.{InRange}
use Rattle.answers.proofs.Range.{Fitting}
use Rattle.answers.proofs.Rows.{ok-passed, err-refused}
use Rattle.theory.proofs.Laws.{has_room}
use Rattle.finder.specs.Find.{Outcome, find_refusal, refused, sought}
use Rattle.finder.proofs.Refusals.{by_buffer, by_check, find_fits}
use Rattle.finder.proofs.find_reading.Goals as goal

-- the answer of a row of find that fits: its fields hold it, and the buffer is as it was
told : (job starts facts buffer : List ℕ) {e : Refusal} → ((i : ℕ) → get_or starts i 0 < 2 ^ 32) → e ≡ find_refusal (length buffer) job starts facts → (e.number ≡ 0 → ⊥)
    → Outcome job starts facts buffer (Refused e.number e.position 0) buffer × (InRange (Refused e.number e.position 0) × (length_of (Refused e.number e.position 0) ≤ 4032))
told job starts facts buffer {e} words is never =
    let fits : Fitting e = rw is (find_fits (length buffer) job starts facts words) in (
      refused (sym is) never,
      (record { number = fits.number; position = fits.position; length = omega arith; count = omega arith }, omega arith),
    )

pub returns-in-Err : goal.returns-in-Err
returns-in-Err c =
    let a = c.args in
    let h = err-refused _ tt (rw c.in-Err.is at c.buffer_refusal.ensures) in
    let r = told a.job.now a.starts.now a.facts.now a.buffer.now (λ i. omega (arith, c.type_inv.starts i)) (h.1 ∙ by_buffer _ a.job.now a.starts.now a.facts.now h.0) (λ z. h.0 (rw h.1 at z)) in
    rw c.answered.ensures (record { outcome = r.0; in_range = r.1 })

pub seek-requires : goal.seek-requires
seek-requires c =
    let z = (ok-passed _ tt (rw c.in_default.is at c.buffer_refusal.ensures)).0 in
    c.in-Ok.ensures.1 _ (has_room _ z)

pub returns-in-Ok : goal.returns-in-Ok
returns-in-Ok c =
    let a = c.args in
    let z = (ok-passed _ tt (rw c.in_default.is at c.buffer_refusal.ensures)).0 in
    let is = sym (by_check _ a.job.now a.starts.now a.facts.now z) in
    record { outcome = sought (ap (λ (r : Refusal). r.number) is ∙ c.in-Ok.ensures.0) c.seek.ensures.searched; in_range = c.seek.ensures.in_range }

pub returns-in-Err-readied : goal.returns-in-Err-readied
returns-in-Err-readied c =
    let a = c.args in
    let h = c.in-Err-readied.ensures in
    let z = (ok-passed _ tt (rw c.in_default.is at c.buffer_refusal.ensures)).0 in
    let r = told a.job.now a.starts.now a.facts.now a.buffer.now (λ i. omega (arith, c.type_inv.starts i)) (h.0 ∙ by_check _ a.job.now a.starts.now a.facts.now z) (λ z. h.1 (rw h.0 at z)) in
    rw c.answered-in-Err-readied.ensures (record { outcome = r.0; in_range = r.1 })
