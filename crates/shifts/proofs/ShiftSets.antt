-- The shift windows of all actions, one word of the job after the other, and what their sets of moments tell. Assumes nothing.
use mathlib.Core.Bool.{Bool, not, ◌&&◌, ◌||◌, or_comm, and-false}
use mathlib.Core.List.{List}
use mathlib.Core.Path.{◌≡◌, sym, ◌∙◌}
use Prim.Native.Nat.{ℕ, ◌+◌, ◌-◌, ◌<◌, ◌≤◌}
use native.Mathlib.Decide.{ℕ_discrete, dec_lt}
use native.Mathlib.Omega.{arith}
use borrow.Author.Tests.{eq-eqb, ne_eqb, le-leb, lt-leb}
use lib.Dec.{eqb, leb}
use lib.ListN.{length, get_or, drop, set, replicate}
use Rattle.bitset.specs.Code.Members.{has, IsSetOf}
use Rattle.bitset.proofs.Digits.{has-zero}
use Rattle.bitset.proofs.SetTable.{SetTable, table_none, table-other, table_more}
use Rattle.words.specs.Fields.{kind, shift_window_action, shift_window_from, shift_window_to}
use Rattle.words.specs.Scan.{any}
use Rattle.words.proofs.Scan.{drop-next, any-end}
use Rattle.words.proofs.Filter.{none_kept, any-filter}
use Rattle.job.specs.Parts.{actions, duration, is_shift_window_of, shift_windows_of}
use Rattle.history.specs.Code.Tables.{Durations}
use Rattle.starts.specs.Rows.{inside_window, may_start}
use Rattle.shifts.specs.Code.ShiftSets.{ShiftTable}
use Rattle.shifts.specs.declared.Shifts.{Shifts}

-- the moments at which an action of duration d may start in a window: none where it ends before moment d
module _ (d w : ℕ) where
  pub moments_none : shift_window_to w < d → IsSetOf 0 (λ u. inside_window d u w)
  moments_none l u = rw (has-zero u, lt-leb (u + d) (shift_window_to w) (omega arith)) (sym (and-false (leb (shift_window_from w) u)))

  pub moments_between : (r : ℕ) {from last : ℕ} → d ≤ shift_window_to w → from ≡ shift_window_from w → last ≡ shift_window_to w - d → IsSetOf r (λ u. leb from u && leb u last)
      → IsSetOf r (λ u. inside_window d u w)
  moments_between r {from} {last} l ef el h u = h u ∙ rw (ef, cases (dec_lt last u))
    where
      cases : Dec (last < u) → leb u last ≡ leb (u + d) (shift_window_to w)
      cases (yes m) = rw (lt-leb u last m, lt-leb (u + d) (shift_window_to w) (omega arith))
      cases (no m) = rw (le-leb u last (omega arith), le-leb (u + d) (shift_window_to w) (omega arith))

-- w is a window of action a in which it may start at u, by a table of durations
abbrev pub allows : List ℕ → ℕ → ℕ → ℕ → Bool
allows durations a u w = is_shift_window_of a w && inside_window (get_or durations a 0) u w

-- the sets of the windows among the words ws of a job
pub record ShiftsIn (durations ws : List ℕ) (windowed : ℕ) (inside : List ℕ) : Type 0 where
  pub some : (a : ℕ) → has windowed a ≡ any (is_shift_window_of a) ws
  pub moments : SetTable (allows durations) ws inside

module _ {durations : List ℕ} (job : List ℕ) where
  pub shifts_none : ShiftsIn durations (drop (length job) job) 0 (replicate 64 0)
  shifts_none = record {
    some = λ a. rw (has-zero a, any-end job (length job) (is_shift_window_of a) (omega arith));
    moments = table_none (allows durations) job;
  }

  -- one word more in front; it is no window, or one of action x, whose set gains the moments that it allows
  module _ (i j : ℕ) {windowed : ℕ} {inside : List ℕ} (h : ShiftsIn durations (drop j job) windowed inside) (next : j ≡ i + 1) (l : i < length job) where
    pub shifts_other : (kind (get_or job i 0) ≡ 12 → ⊥) → ShiftsIn durations (drop i job) windowed inside
    shifts_other n = record {
      some = λ a. rw (drop-next job i l, ← next, ne_eqb (kind (get_or job i 0)) 12 n) (h.some a);
      moments = table-other (allows durations) job i j h.moments next l (λ a u. rw (ne_eqb (kind (get_or job i 0)) 12 n));
    }

    pub shifts_more : {x : ℕ} (one all add sum : ℕ) → kind (get_or job i 0) ≡ 12 → x ≡ shift_window_action (get_or job i 0) → x < 64
        → IsSetOf one (λ a. eqb a x) → IsSetOf all (λ a. has windowed a || has one a)
        → IsSetOf add (λ u. inside_window (get_or durations x 0) u (get_or job i 0)) → IsSetOf sum (λ u. has (get_or inside x 0) u || has add u)
        → ShiftsIn durations (drop i job) all (set inside x sum)
    shifts_more {x} one all add sum k ex small is_one is_all is-add is_sum = record {
      some = λ a. rw (drop-next job i l, ← next, eq-eqb (kind (get_or job i 0)) 12 k, ← ex, is_all a, is_one a, ← (h.some a)) (or_comm (has windowed a) (eqb a x));
      moments = table_more (allows durations) job i j h.moments next l add sum small
          (λ a u. rw (eq-eqb (kind (get_or job i 0)) 12 k, ← ex, is-add u) (cases a u (ℕ_discrete a x)))
          is_sum;
    }
      where
        cases : (a u : ℕ) → Dec (a ≡ x)
            → (eqb a x && inside_window (get_or durations a 0) u (get_or job i 0)) ≡ (eqb a x && inside_window (get_or durations x 0) u (get_or job i 0))
        cases a u (yes e) = rw e
        cases a u (no n) = rw (ne_eqb a x n)

-- of all words of the job
pub shifts_all : {job durations inside : List ℕ} {windowed : ℕ} → Durations job durations → ShiftsIn durations job windowed inside
    → ShiftTable job (record { windowed = windowed; inside = inside })
unfolding may_start shift_windows_of
shifts_all {job} {durations} {inside} d h = record {
  entry = λ u a l. rw (h.some a, by_duration u a, d.entry a l, none_kept (is_shift_window_of a) job, any-filter (inside_window (duration job a) u) (is_shift_window_of a) job);
}
  where
    by_duration : (u a : ℕ) → has (get_or inside a 0) u ≡ any (λ w. is_shift_window_of a w && inside_window (get_or durations a 0) u w) job
    by_duration u a = h.moments.entry a u

-- whether action a may start at u, where the code has read b for a and x for u
pub may_start-read : {job : List ℕ} {shifts : Shifts} → ShiftTable job shifts → {r : Bool} (x b : ℕ) {u a : ℕ}
    → r ≡ (not (has shifts.windowed b) || has (get_or shifts.inside b 0) x) → x ≡ u → b ≡ a → a < actions job → r ≡ may_start job u a
may_start-read h x b {u} {a} e eu ea l = e ∙ rw (eu, ea) (h.entry u a l)
