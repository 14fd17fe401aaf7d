-- The searches for the moments of two parts: a begin that meets, and a cut, taken lowest first. Assumes nothing.
use Prim.Native.Nat.{ℕ, zero, suc, ◌+◌, ◌≤◌, ◌<◌}
use mathlib.Core.Path.{◌≡◌, refl, sym, ap, ◌∙◌}
use mathlib.Core.Bool.{true}
use mathlib.Core.Logic.{by_cases}
use mathlib.Core.List.{List}
use native.Mathlib.Nat.{pow-suc}
use native.Mathlib.Decide.{ℕ_discrete}
use native.Mathlib.Omega.{arith}
use lib.Pow.{pow_pos}
use Rattle.model.specs.Code.Table.{InTable, row_at}
use Rattle.bitset.specs.Code.Members.{has, In, Lowest, Dropped, Max}
use Rattle.bitset.proofs.Bools.{not_both}
use Rattle.bitset.proofs.Digits.{has-past}
use Rattle.bitset.proofs.In.{in_zero, in_dropped}
use Rattle.reading.specs.Code.Quiet.{QuietUpto}
use Rattle.reading.specs.declared.pauses.Pause.{Pause}
use Rattle.extract.specs.Code.Search.{Meets, FirstMeets, CutAt}
use Rattle.std.specs.Prelude.{Option, Some, None, min}

-- ---- a begin that meets

module _ (xs y first end e : ℕ) (table : List ℕ) where
  pub first_meets : (r : Option ℕ) → end < 128 → (r ≡ None → (m : ℕ) → first ≤ m → m ≤ min end 63 → Max xs (row_at table y m) e → ⊥)
      → ((m : ℕ) → r ≡ Some m → (first ≤ m) × (m ≤ min end 63) × Max xs (row_at table y m) e) → FirstMeets xs table y first end e r
  first_meets None h f g = λ m s. let a = s.upto in let b = s.moment in f refl m s.from (omega arith) s.max
  first_meets (Some m) h f g = let (a, b, s) = g m refl in record { from = a; upto = omega arith; moment = omega arith; max = s }

-- ---- the set of 0 alone asks for nothing

zero_alone : (i : ℕ) → has 1 i ≡ true → i ≡ 0
zero_alone zero h = refl
zero_alone (suc j) h = not_both h (has-past 1 (suc j) (let p = pow_pos j in omega (arith, pow-suc 2 j)))

alone-in : {r e : ℕ} → Max 1 r e → In r e
alone-in {r} {e} m = let z = zero_alone m.i m.in_a in let q : m.j ≡ e = omega (arith, m.is_max) in record { yes = ap (has r) (sym q) ∙ m.in_b }

in_alone : {r e : ℕ} → In r e → Max 1 r e
unfolding has
in_alone {e = e} h = record { i = 0; j = e; in_a = refl; in_b = h.yes; is_max = omega arith }

-- a set that has a member is not 0
pub nonempty : (x k : ℕ) → has x k ≡ true → 0 < x
nonempty x k h = by_cases (ℕ_discrete x 0) (λ z. in_zero {e = k} z (record { yes = h })) (λ z. omega arith)

-- ---- a cut

-- what is left are ends of x from `from` on, and every cut is at one of them
pub record Left (table : List ℕ) (x y b e : ℕ) (pause : Pause) (from left : ℕ) : Type 0 where
  pub end : (k : ℕ) → In left k → InTable table x b k
  pub after : (k : ℕ) → In left k → from ≤ k
  pub all : (k m : ℕ) → CutAt table x y b e pause from k m → In left k

module _ {table : List ℕ} {x y b e from : ℕ} {pause : Pause} where
  module _ {left k end : ℕ} (l : Left table x y b e pause from left) (first : Lowest left k) (u : QuietUpto pause k end) where
    pub left_found : {m : ℕ} → Meets 1 table y (k + pause.least) end e m → CutAt table x y b e pause from k m
    left_found {m = m} f =
        let (late, quiet) = (u.at m).0 f.upto in
        let here : In left k = record { yes = first.member } in
        record {
          after = l.after k here;
          end = first.below;
          early = f.from;
          late = late;
          quiet = quiet;
          begin = f.moment;
          ends = l.end k here;
          begins = alone-in f.max;
        }

    pub left_turn : {left' : ℕ} → ((m : ℕ) → Meets 1 table y (k + pause.least) end e m → ⊥) → Dropped left left' → Left table x y b e pause from left'
    left_turn {left'} none d =
        record {
          end = λ j i. l.end j (old j i);
          after = λ j i. l.after j (old j i);
          all = λ j i c. let other : j ≡ k → ⊥ = λ q. none i (meets j i q c) in
              (in_dropped first d j).1 (l.all j i c, other);
        }
      where
        old : (j : ℕ) → In left' j → In left j
        old j i = ((in_dropped first d j).0 i).0

        meets : (j i : ℕ) → j ≡ k → CutAt table x y b e pause from j i → Meets 1 table y (k + pause.least) end e i
        meets j i q c = let early = c.early in let late = c.late in
            record { from = omega arith; upto = (u.at i).1 (omega arith, rw q at c.quiet); moment = c.begin; max = in_alone c.begins }

  pub left_none : {left k m : ℕ} → Left table x y b e pause from left → left ≡ 0 → CutAt table x y b e pause from k m → ⊥
  left_none {k = k} {m = m} l z c = in_zero z (l.all k m c)
