-- The rule of each form is sound and complete for readings (`step`), and asks only for rows that stand before (`carry`). Assumes nothing.
use Prim.Native.Nat.{ℕ, ◌+◌, ◌<◌, ◌≤◌}
use mathlib.Core.Path.{◌≡◌, refl}
use mathlib.Core.Logic.{◌⊎◌, inl, inr, ◌↔◌, by_cases}
use mathlib.Core.List.{List, []}
use native.Mathlib.Decide.{dec_lt}
use native.Mathlib.Omega.{arith}
use Rattle.model.specs.Trajectory.{Trajectory}
use Rattle.model.specs.Procedure.{Procedure}
use Rattle.sets.specs.Set.{TaskSet, member_count}
use Rattle.sets.specs.Code.Set.{member, SetRule}
use Rattle.model.specs.Forms.{Form, Act, Test, Sequence, Choice, If, While, StartWindow, EndWindow, Set, Reserved, form_at}
use Rattle.model.specs.Code.Forms.{children_as, Below}
use Rattle.model.proofs.Forms.{at-below}
use Rattle.reading.specs.Reading.{Mode, whole, passes, Reading, act, test, sequence, first, second, taken, otherwise, loop, done, pass, start_window, end_window, set, HasReading}
use Rattle.reading.specs.Code.Rule.{Rule}

-- a reading ends no sooner than it begins
pub onward : {P : Procedure} {T : Trajectory} {o : Mode} {p b e : ℕ} {ws : List ℕ} → Reading P T o p b e ws → b ≤ e
onward (act f s d) = omega arith
onward (test f t d) = omega arith
onward (sequence f l r) = let hl = onward l in let hr = onward r in omega arith
onward (first f l) = onward l
onward (second f r) = onward r
onward (taken f t l) = onward l
onward (otherwise f t r) = onward r
onward (loop f l) = onward l
onward (done t d) = omega arith
onward (pass t h l r) = let hl = onward l in let hr = onward r in omega arith
onward (start_window f l r g h d) = let hl = onward l in omega arith
onward (end_window f l r g h q) = let hl = onward l in let hr = onward r in omega arith
onward (set f r h) = h.onward

-- a loop's reading holds its passes; of any other form this says nothing
Passing : Procedure → Trajectory → Form → ℕ → ℕ → ℕ → Type 0
Passing P T Act p b e = Unit {0}
Passing P T Test p b e = Unit {0}
Passing P T Sequence p b e = Unit {0}
Passing P T Choice p b e = Unit {0}
Passing P T If p b e = Unit {0}
Passing P T While p b e = (us : List ℕ) × Reading P T passes p b e us
Passing P T StartWindow p b e = Unit {0}
Passing P T EndWindow p b e = Unit {0}
Passing P T Set p b e = Unit {0}
Passing P T Reserved p b e = Unit {0}

module _ {P : Procedure} {T : Trajectory} where
  passing : {p b e : ℕ} {ws : List ℕ} → Reading P T whole p b e ws → Passing P T (form_at P p) p b e
  unfolding Passing
  passing (act f s d) = rw f tt
  passing (test f t d) = rw f tt
  passing (sequence f l r) = rw f tt
  passing (first f l) = rw f tt
  passing (second f r) = rw f tt
  passing (taken f t l) = rw f tt
  passing (otherwise f t r) = rw f tt
  passing (loop f r) = rw f (_, r)
  passing (start_window f l r g h d) = rw f tt
  passing (end_window f l r g h q) = rw f tt
  passing (set f r h) = rw f tt

  -- What a reading was made of
  parts : {p b e : ℕ} {ws : List ℕ} → e ≤ T.last → Reading P T whole p b e ws → Rule P T (HasReading P T) (form_at P p) p b e
  parts h (act f s d) = rw f (s, d, h)
  parts h (test f t d) = rw f (t, d)
  parts h (sequence f l r) = let hl = onward l in let hr = onward r in rw f (record { m = _; early = hl; upto = omega arith; left = (omega arith, (_, l)); right = (h, (_, r)) })
  parts h (first f l) = rw f (inl (h, (_, l)))
  parts h (second f r) = rw f (inr (h, (_, r)))
  parts h (taken f t l) = rw f (inl (t, (h, (_, l))))
  parts h (otherwise f t r) = rw f (inr (t, (h, (_, r))))
  parts h (loop f (done t d)) = rw f (inl (t, d))
  parts h (loop f (pass {m = m} t g l r)) =
      let hr = onward r in rw f (inr (t, record { m = m; early = omega arith; upto = omega arith; left = (omega arith, (_, l)); right = (h, (_, loop f r)) }))
  parts h (start_window {k = k} {m = m} {l = j} f l r g u d) =
      let hr = onward r in rw f (record { m = m; early = g; late = u; upto = omega arith; k = k; l = j; greater = d; left = (omega arith, (_, l)); right = (omega arith, (_, r)) })
  parts h (end_window {k = k} {m = m} f l r g u q) =
      let hl = onward l in let hr = onward r in rw f (record { k = k; m = m; after = hl; early = g; late = u; upto = omega arith; left = (omega arith, (_, l)); right = (h, (_, r)); quiet = q })
  parts h (set {bs = bs} {es = es} {us = us} f r g) = rw f (record {
    begins = bs;
    ends = es;
    reads = λ i l. let k = g.inside i l in (omega arith, (us i, r i l));
    placing = g;
  })

  -- the words of each member, and of any other number none
  chosen : {s : TaskSet} {b e : ℕ} (r : SetRule s (HasReading P T) b e) (i : ℕ)
      → (ws : List ℕ) × (i < member_count s → Reading P T whole (member s i) (r.begins i) (r.ends i) ws)
  chosen {s = s} r i = by_cases (dec_lt i (member_count s)) (λ l. ((r.reads i l).1.0, λ k. (r.reads i l).1.1)) (λ l. ([], λ k. absurd (l k)))

  -- and a reading made of it
  made : {p b e : ℕ} (k : Form) → form_at P p ≡ k → b ≤ T.last → Rule P T (HasReading P T) k p b e → HasReading P T p b e
  unfolding Passing
  made Act f h r = (r.2, (_, act f r.0 r.1))
  made Test f h r = let d = r.1 in (omega arith, (_, test f r.0 d))
  made Sequence f h r = (r.right.0, (_, sequence f r.left.1.1 r.right.1.1))
  made Choice f h (inl r) = (r.0, (_, first f r.1.1))
  made Choice f h (inr r) = (r.0, (_, second f r.1.1))
  made If f h (inl r) = let (t, l) = r in (l.0, (_, taken f t l.1.1))
  made If f h (inr r) = let (t, l) = r in (l.0, (_, otherwise f t l.1.1))
  made While f h (inl r) = let d = r.1 in (omega arith, (_, loop f (done r.0 d)))
  made While f h (inr r) =
      let (t, s) = r in let g = s.early in let rest = s.right in
      (rest.0, (_, loop f (pass {m = s.m} t (omega arith) s.left.1.1 (rw f at (passing rest.1.1)).1)))
  made StartWindow f h r =
      let x = r.left.0 in let y = r.right.0 in let d = r.greater in
      (omega arith, (_, start_window f r.left.1.1 r.right.1.1 r.early r.late d))
  made EndWindow f h r = (r.right.0, (_, end_window f r.left.1.1 r.right.1.1 r.early r.late r.quiet))
  made Set f h r = let us = chosen r in (r.placing.within, (_, set {us = λ i. (us i).0} f (λ i l. (us i).1 l) r.placing))
  made Reserved f h r = absurd r

  -- the rule is sound and complete
  pub step : {p b e : ℕ} → b ≤ T.last → HasReading P T p b e ↔ Rule P T (HasReading P T) (form_at P p) p b e
  step {p = p} h = (λ r. parts r.0 r.1.1, made (form_at P p) refl h)

-- the order of the rows: those of the lower nodes, and those of p from k on, stand before
abbrev pub Filled : ℕ → ℕ → ℕ → ℕ → Type 0
Filled p k q c = (q < p) ⊎ ((q ≡ p) × (k ≤ c))

-- The rule of row b of node p asks R of the rows before it only.
pub carry : (P : Procedure) (T : Trajectory) {p b : ℕ} (e : ℕ) {R S : ℕ → ℕ → ℕ → Type 0} (k : Form) → Below p (children_as P k p) → b ≤ T.last
    → ((q c d : ℕ) → Filled p (b + 1) q c → c ≤ T.last → R q c d → S q c d) → Rule P T R k p b e → Rule P T S k p b e
carry P T e Act g h f r = r
carry P T e Test g h f r = r
carry P T e Sequence g h f r = record {
  m = r.m;
  early = r.early;
  upto = r.upto;
  left = f _ _ _ (inl g.0) h r.left;
  right = f _ _ _ (inl g.1.0) r.upto r.right;
}
carry P T e Choice g h f (inl r) = inl (f _ _ _ (inl g.0) h r)
carry P T e Choice g h f (inr r) = inr (f _ _ _ (inl g.1.0) h r)
carry P T e If g h f (inl r) = inl (r.0, f _ _ _ (inl g.0) h r.1)
carry P T e If g h f (inr r) = inr (r.0, f _ _ _ (inl g.1.0) h r.1)
carry P T e While g h f (inl r) = inl r
carry P T e While g h f (inr r) = let (t, s) = r in
    inr (
      t,
      record {
        m = s.m;
        early = s.early;
        upto = s.upto;
        left = f _ _ _ (inl g.0) h s.left;
        right = f _ _ _ (inr (refl, s.early)) s.upto s.right;
      },
    )
carry P T e StartWindow g h f r = record {
  m = r.m;
  early = r.early;
  late = r.late;
  upto = r.upto;
  k = r.k;
  l = r.l;
  greater = r.greater;
  left = f _ _ _ (inl g.0) h r.left;
  right = f _ _ _ (inl g.1.0) r.upto r.right;
}
carry P T e EndWindow g h f r = record {
  k = r.k;
  m = r.m;
  after = r.after;
  early = r.early;
  late = r.late;
  upto = r.upto;
  left = f _ _ _ (inl g.0) h r.left;
  right = f _ _ _ (inl g.1.0) r.upto r.right;
  quiet = r.quiet;
}
carry P T {p = p} e Set g h f r = record {
  begins = r.begins;
  ends = r.ends;
  reads = λ i l. let k = r.placing.inside i l in let m = r.placing.within in f _ _ _ (inl (at-below (P.members p) g i l)) (omega arith) (r.reads i l);
  placing = r.placing;
}
carry P T e Reserved g h f r = r
