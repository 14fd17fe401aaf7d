-- The table as it is filled: the rows of one node from the last begin down, and the nodes one after the other. Assumes nothing.
use Prim.Native.Nat.{ℕ, zero, suc, ◌+◌, ◌*◌, ◌≤◌, ◌<◌}
use mathlib.Core.Path.{◌≡◌, sym, ◌∙◌, subst}
use mathlib.Core.Logic.Iff
use mathlib.Core.Logic.{◌↔◌, ◌⊎◌, inl, inr, by_cases}
use mathlib.Core.List.{List}
use native.Mathlib.Decide.{dec_lt}
use native.Mathlib.Omega.{arith}
use lib.ListN.{length, get_or, set, length-set, replicate, length-replicate}
use lib.Seq.{get_or-set_same, get_or-set_other}
use Rattle.model.specs.Code.Table.{InTable, row_at}
use Rattle.bitset.specs.Code.Members.{In}
use Rattle.bitset.proofs.In.{in_zero, empty_entry}
use Rattle.model.specs.Trajectory.{Trajectory}
use Rattle.model.specs.Procedure.{Procedure}
use Rattle.model.specs.Forms.{form_at}
use Rattle.model.specs.Code.Forms.{children, Below}
use Rattle.reading.specs.Code.Forms.{Readable}
use Rattle.reading.specs.Reading.{HasReading}
use Rattle.reading.specs.Code.Rule.{Rule}
use Rattle.reading.specs.Code.Quiet.{AllStarts}
use Rattle.reading.specs.Code.Table.{Inside, RowOf, NodeReady, NodeRows, Blank, Found}
use Rattle.reading.proofs.Step.{onward, step, Filled, carry}

-- two tables with the same row
same_row : (t u : List ℕ) (q c d : ℕ) → row_at t q c ≡ row_at u q c → InTable t q c d → InTable u q c d
same_row t u q c d s = subst (λ (x : ℕ). In x d) s

-- the rule of row b of node p is the same by tables with the same rows before it
rule_same : (P : Procedure) (T : Trajectory) {p b : ℕ} (t u : List ℕ) → Below p (children P p) → b ≤ T.last
    → ((q c : ℕ) → Filled p (b + 1) q c → c ≤ T.last → row_at t q c ≡ row_at u q c)
    → (e : ℕ) → Rule P T (InTable t) (form_at P p) p b e ↔ Rule P T (InTable u) (form_at P p) p b e
rule_same P T {p} t u g l s e = (
  carry P T e (form_at P p) g l (λ q c d f m. same_row t u q c d (s q c f m)),
  carry P T e (form_at P p) g l (λ q c d f m. same_row u t q c d (sym (s q c f m))),
)

-- ---- the rows of node p, the last begin first

-- the rows of p from b on are there
pub record RowsFrom (P : Procedure) (T : Trajectory) (p : ℕ) (before t : List ℕ) (b : ℕ) : Type 0 where
  pub size : length t ≡ length before
  pub rows : (c : ℕ) → b ≤ c → c ≤ T.last → RowOf P T t p c (row_at t p c)
  pub others : (i : ℕ) → (i < p * 64) ⊎ (p * 64 + T.last < i) → get_or t i 0 ≡ get_or before i 0

module _ {P : Procedure} {T : Trajectory} {p : ℕ} {before : List ℕ} where
  pub rows_end : {t : List ℕ} {b : ℕ} → b ≡ 0 → RowsFrom P T p before t b → NodeRows P T p before t
  rows_end z h = record { rows = λ c l. h.rows c (omega arith) l; others = h.others }

  module _ {started : ℕ} (g : NodeReady P T started p before) {t : List ℕ} {b k : ℕ} (l : b ≤ T.last) (s : k ≡ b + 1) (h : RowsFrom P T p before t k) where
    pub rows_more : {r : ℕ} → RowOf P T t p b r → RowsFrom P T p before (set t (p * 64 + b) r) b
    rows_more {r} new = record {
      size = simp length-set h.size;
      rows = λ c k m. by_cases (dec_lt b c) (λ i. kept c i m) (λ i. here c (omega arith));
      others = λ i o. get_or-set_other t (p * 64 + b) i r 0 (apart i o) ∙ h.others i o;
    }
      where
        apart : (i : ℕ) → (i < p * 64) ⊎ (p * 64 + T.last < i) → i ≡ p * 64 + b → ⊥
        apart i (inl o) q = omega arith
        apart i (inr o) q = omega arith

        -- the rows before row b are as they were
        before-b : (q c : ℕ) → Filled p (b + 1) q c → c ≤ T.last → row_at t q c ≡ row_at (set t (p * 64 + b) r) q c
        before-b q c (inl f) m = sym (get_or-set_other t (p * 64 + b) (q * 64 + c) r 0 (omega (arith, g.moments)))
        before-b q c (inr f) m = sym (get_or-set_other t (p * 64 + b) (q * 64 + c) r 0 (omega (arith, f.0, f.1)))

        later : (c q d : ℕ) → b ≤ c → Filled p (c + 1) q d → Filled p (b + 1) q d
        later c q d k (inl f) = inl f
        later c q d k (inr f) = inr (f.0, omega (arith, f.1))

        rule : (c : ℕ) → b ≤ c → c ≤ T.last → (e : ℕ) → Rule P T (InTable t) (form_at P p) p c e ↔ Rule P T (InTable (set t (p * 64 + b) r)) (form_at P p) p c e
        rule c k m = rule_same P T t (set t (p * 64 + b) r) g.formed.lower m (λ q d f i. before-b q d (later c q d k f) i)

        kept : (c : ℕ) → b < c → c ≤ T.last → RowOf P T (set t (p * 64 + b) r) p c (row_at (set t (p * 64 + b) r) p c)
        kept c i m e = rw (get_or-set_other t (p * 64 + b) (p * 64 + c) r 0 (omega arith)) (Iff.trans (h.rows c (omega arith) m e) (rule c (omega arith) m e))

        here : (c : ℕ) → c ≡ b → RowOf P T (set t (p * 64 + b) r) p c (row_at (set t (p * 64 + b) r) p c)
        here c q e = rw (q, get_or-set_same t (p * 64 + b) r 0 (omega (arith, g.room, g.moments, h.size))) (Iff.trans (new e) (rule b (omega arith) l e))

-- ---- the nodes, one after the other

-- a new table is empty
pub blank : (k : ℕ) → k ≡ 4096 → Blank (replicate k 0)
blank k q = record { size = length-replicate k 0 ∙ q; empty = empty_entry k }

-- the rows of the nodes below p are right, and every other row is empty
pub record Built (P : Procedure) (T : Trajectory) (t : List ℕ) (p : ℕ) : Type 0 where
  pub size : length t ≡ 4096
  pub right : (q b e : ℕ) → q < p → b ≤ T.last → InTable t q b e ↔ HasReading P T q b e
  pub empty : (q b : ℕ) → b < 64 → (p ≤ q) ⊎ (T.last < b) → row_at t q b ≡ 0

module _ {P : Procedure} {T : Trajectory} where
  pub built_inside : {t : List ℕ} {p : ℕ} → Built P T t p → (q b : ℕ) → q < p → b ≤ T.last → Inside t q b T.last
  built_inside h q b k l e i = let r = (h.right q b e k l).0 i in (onward r.1.1, r.0)

  pub built_ready : {size started : ℕ} {places t : List ℕ} {p : ℕ} → Readable P T size places → AllStarts T.starts started → p < P.count → Built P T t p
      → NodeReady P T started p t
  built_ready g mask l h = record { formed = g.formed _ l; moments = g.moments; mask = mask; room = omega (arith, g.few, h.size); inside = built_inside h }

  module _ {t u : List ℕ} {p : ℕ} (small : T.last < 64) (lowers : Below p (children P p)) (h : Built P T t p) (new : NodeRows P T p t u) where
    lower : (q b e : ℕ) → q < p → b ≤ T.last → InTable u q b e ↔ HasReading P T q b e
    lower q b e k l = rw (new.others (q * 64 + b) (inl (omega arith))) (h.right q b e k l)

    -- the rows before row b of p are right, where the later rows of p are
    before : {b : ℕ} → ((c d : ℕ) → b < c → c ≤ T.last → InTable u p c d ↔ HasReading P T p c d)
        → (q c d : ℕ) → Filled p (b + 1) q c → c ≤ T.last → InTable u q c d ↔ HasReading P T q c d
    before later q c d (inl f) m = lower q c d f m
    before later q c d (inr f) m = rw f.0 (later c d (omega (arith, f.1)) m)

    -- the rows of p that lie less than k before the last
    right_rows : (k b e : ℕ) → b ≤ T.last → T.last < b + k → InTable u p b e ↔ HasReading P T p b e
    right_rows zero b e l d = absurd (omega arith)
    right_rows (suc k) b e l d =
        let r = before {b = b} (λ c j i m. right_rows k c j m (omega arith)) in (
          λ i. (step l).1 (carry P T e (form_at P p) lowers l (λ q c j f m. (r q c j f m).0) ((new.rows b l e).0 i)),
          λ i. (new.rows b l e).1 (carry P T e (form_at P p) lowers l (λ q c j f m. (r q c j f m).1) ((step l).0 i)),
        )

    pub built_more : length u ≡ length t → Built P T u (p + 1)
    built_more s = record {
      size = s ∙ h.size;
      right = λ q b e k l. by_cases (dec_lt q p) (λ i. lower q b e i l) (λ i. let j : q ≡ p = omega arith in rw j (right_rows 64 b e l (omega arith)));
      empty = λ q b l o. new.others (q * 64 + b) (apart q b l o) ∙ h.empty q b l (still q b o);
    }
      where
        apart : (q b : ℕ) → b < 64 → (p + 1 ≤ q) ⊎ (T.last < b) → (q * 64 + b < p * 64) ⊎ (p * 64 + T.last < q * 64 + b)
        apart q b l (inl o) = inr (omega arith)
        apart q b l (inr o) = by_cases (dec_lt q p) (λ i. inl (omega arith)) (λ i. inr (omega arith))

        still : (q b : ℕ) → (p + 1 ≤ q) ⊎ (T.last < b) → (p ≤ q) ⊎ (T.last < b)
        still q b (inl o) = inl (omega arith)
        still q b (inr o) = inr o

  pub built_end : {t : List ℕ} {p : ℕ} → p ≡ P.count → Built P T t p → Found P T t
  built_end {t} {p} s h = record {
    size = h.size;
    right = λ q b e k l. h.right q b e (omega arith) l;
    beyond = λ q b e l i. (
      by_cases (dec_lt q P.count) (λ k. k) (λ k. none q b e i (h.empty q b l (inl (omega arith)))),
      by_cases (dec_lt T.last b) (λ k. none q b e i (h.empty q b l (inr k))) (λ k. omega arith),
    );
  }
    where
      none : {A : Type 0} (q b e : ℕ) → InTable t q b e → row_at t q b ≡ 0 → A
      none q b e i z = in_zero z i
