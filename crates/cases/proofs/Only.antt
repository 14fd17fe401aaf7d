-- A test that computes whether a test passes on each reading of a node, and its law: where `on_each` says so, it does. Assumes nothing.
use Prim.Native.Nat.{ℕ, zero, suc, ◌+◌, ◌≤◌, ◌<◌, max}
use mathlib.Core.Bool.{Bool, true, false, ◌&&◌, false≢true}
use mathlib.Core.Path.{◌≡◌, sym, ap, ◌∙◌}
use mathlib.Core.Logic.Iff
use mathlib.Core.List.{List, [], ◌∷◌, ◌++◌}
use native.Mathlib.Omega.{arith}
use lib.Dec.{eqb, leb}
use lib.ListN.{length, get_or}
use borrow.Author.Tests.{eq-eqb, le-leb}
use Rattle.words.specs.Scan.{concat_below}
use Rattle.words.specs.Tests.{implies, within}
use Rattle.words.proofs.Choices.{both_true, implies_true}
use Rattle.words.specs.Fields.{fails, holds, reading_word}
use Rattle.model.specs.Trajectory.{Trajectory}
use Rattle.model.specs.Procedure.{Procedure}
use Rattle.model.specs.Forms.{Form, Act, Test, Sequence, Choice, If, While, StartWindow, EndWindow, Set, form_at, field_x, field_y, field_m, field_n, Reserved}
use Rattle.reading.specs.Reading.{Mode, whole, passes, Reading, act, test, sequence, first, second, taken, otherwise, loop, done, pass, start_window, end_window, set}
use Rattle.reading.proofs.Step.{onward}
use Rattle.words.proofs.AllBelow.{all_below, all_law}
use Rattle.cases.proofs.Decides.{and_law}

-- whether a test passes on each reading, by mode, node, begin and end
abbrev pub OnReadings : Type 0
OnReadings = Mode → ℕ → ℕ → ℕ → (List ℕ → Bool) → Bool

-- on the words of the first k members, whatever they read up to e
unfoldable pub on_members : OnReadings → List ℕ → ℕ → ℕ → (List ℕ → Bool) → Bool
on_members R ms e zero f = f []
on_members R ms e (suc i) f = on_members R ms e i (λ ws. all_below (λ x. all_below (λ y. R whole (get_or ms i 0) x y (λ us. f (ws ++ us))) (suc e)) (suc e))

-- by the rule of each form; of a set, without asking for its covering and its conditions, and of an end window without asking for its quiet
unfoldable pub on_form : Procedure → Trajectory → OnReadings → Form → ℕ → ℕ → ℕ → (List ℕ → Bool) → Bool
on_form P T R Act p b e f = implies (T.starts (field_x P p) b && eqb e (b + T.duration (field_x P p))) (f (reading_word p b e ∷ []))
on_form P T R Test p b e f = implies (eqb (T.value (field_x P p) b) holds && eqb e b) (f (reading_word p b e ∷ []))
on_form P T R Sequence p b e f =
    all_below (λ m. R whole (field_x P p) b m (λ us. R whole (field_y P p) m e (λ vs. f (reading_word p b e ∷ (us ++ vs))))) (suc e)
on_form P T R Choice p b e f =
    R whole (field_x P p) b e (λ us. f (reading_word p b e ∷ us)) && R whole (field_y P p) b e (λ us. f (reading_word p b e ∷ us))
on_form P T R If p b e f =
    implies (eqb (T.value (field_x P p) b) holds) (R whole (field_y P p) b e (λ us. f (reading_word p b e ∷ us)))
    && implies (eqb (T.value (field_x P p) b) fails) (R whole (field_m P p) b e (λ us. f (reading_word p b e ∷ us)))
on_form P T R While p b e f = R passes p b e (λ us. f (reading_word p b e ∷ us))
on_form P T R StartWindow p b e f =
    all_below (λ m. implies (within (b + field_m P p) (b + field_n P p) m)
    (all_below (λ k. all_below (λ l. implies (eqb e (max k l))
    (R whole (field_x P p) b k (λ us. R whole (field_y P p) m l (λ vs. f (reading_word p b e ∷ (us ++ vs)))))) (suc e)) (suc e))) (suc e)
on_form P T R EndWindow p b e f =
    all_below (λ k. all_below (λ m. implies (within (k + field_m P p) (k + field_n P p) m)
    (R whole (field_x P p) b k (λ us. R whole (field_y P p) m e (λ vs. f (reading_word p b e ∷ (us ++ vs)))))) (suc e)) (suc e)
on_form P T R Set p b e f = on_members R (P.members p) e (length (P.members p)) (λ ws. f (reading_word p b e ∷ ws))
on_form P T R Reserved p b e f = true

unfoldable pub on_passes : Procedure → Trajectory → OnReadings → ℕ → ℕ → ℕ → (List ℕ → Bool) → Bool
on_passes P T R p b e f =
    implies (eqb (T.value (field_x P p) b) fails && eqb e b) (f [])
    && implies (eqb (T.value (field_x P p) b) holds)
    (all_below (λ m. implies (leb (suc b) m) (R whole (field_y P p) b m (λ us. R passes p m e (λ vs. f (us ++ vs))))) (suc e))

-- the same, k steps deep; false where that is not deep enough
unfoldable pub on_each : ℕ → Procedure → Trajectory → OnReadings
on_each zero P T o p b e f = false
on_each (suc k) P T whole p b e f = on_form P T (on_each k P T) (form_at P p) p b e f
on_each (suc k) P T passes p b e f = on_passes P T (on_each k P T) p b e f

-- ---- the law

at : (f : ℕ → Bool) {m n : ℕ} → all_below f (suc n) ≡ true → m ≤ n → f m ≡ true
at f {m} {n} h l = (all_law f (suc n)).0 h m (omega arith)

-- a test that is asked for where two others pass
where_two : (a b c : Bool) → implies (a && b) c ≡ true → a ≡ true → b ≡ true → c ≡ true
where_two a b c h x y = implies_true (a && b) c h ((and_law a b Iff.rfl Iff.rfl).1 (x, y))

inside : (low high m : ℕ) {c : Bool} → implies (within low high m) c ≡ true → low ≤ m → m ≤ high → c ≡ true
inside low high m {c} h l g = where_two (leb low m) (leb m high) c h (le-leb low m l) (le-leb m high g)

module _ (P : Procedure) (T : Trajectory) where
  -- the law of a test on readings
  abbrev Sound : OnReadings → Type 0
  Sound R = (f : List ℕ → Bool) (o : Mode) (p b e : ℕ) (ws : List ℕ) → Reading P T o p b e ws → R o p b e f ≡ true → f ws ≡ true

  members : (R : OnReadings) → Sound R → (ms : List ℕ) (e : ℕ) {bs es : ℕ → ℕ} {us : ℕ → List ℕ} (k : ℕ) (f : List ℕ → Bool) → on_members R ms e k f ≡ true
      → ((i : ℕ) → i < k → Reading P T whole (get_or ms i 0) (bs i) (es i) (us i)) → ((i : ℕ) → i < k → (bs i ≤ es i) × (es i ≤ e)) → f (concat_below us k) ≡ true
  unfolding on_members concat_below
  members R g ms e zero f h rs in_e = h
  members R g ms e {bs} {es} {us} (suc i) f h rs in_e =
      let l = in_e i (omega arith) in
      let x = members R g ms e i (λ ws. all_below (λ x. all_below (λ y. R whole (get_or ms i 0) x y (λ us. f (ws ++ us))) (suc e)) (suc e)) h (λ j k. rs j (omega arith)) (λ j k. in_e j (omega arith)) in
      let y = at (λ x. all_below (λ y. R whole (get_or ms i 0) x y (λ vs. f (concat_below us i ++ vs))) (suc e)) {m = bs i} x (omega arith) in
      let z = at (λ y. R whole (get_or ms i 0) (bs i) y (λ vs. f (concat_below us i ++ vs))) {m = es i} y (omega arith) in
      g (λ vs. f (concat_below us i ++ vs)) whole (get_or ms i 0) (bs i) (es i) (us i) (rs i (omega arith)) z

  by_form : (R : OnReadings) (p b e : ℕ) (f : List ℕ → Bool) {k : Form} → form_at P p ≡ k → on_form P T R (form_at P p) p b e f ≡ true → on_form P T R k p b e f ≡ true
  by_form R p b e f q h = sym (ap (λ (k : Form). on_form P T R k p b e f) q) ∙ h

  -- two parts, one after the other
  parts : (R : OnReadings) → Sound R → {x y b m c e : ℕ} {us vs : List ℕ} (f : List ℕ → Bool) → R whole x b m (λ us. R whole y c e (λ vs. f (us ++ vs))) ≡ true
      → Reading P T whole x b m us → Reading P T whole y c e vs → f (us ++ vs) ≡ true
  parts R g {y = y} {c = c} {e = e} {us = us} f h l r =
      g (λ vs. f (us ++ vs)) _ _ _ _ _ r (g (λ us. R whole y c e (λ vs. f (us ++ vs))) _ _ _ _ _ l h)

  pub on_each_lem : (k : ℕ) {o : Mode} {p b e : ℕ} {ws : List ℕ} (f : List ℕ → Bool) → Reading P T o p b e ws → on_each k P T o p b e f ≡ true → f ws ≡ true
  unfolding on_each on_form on_passes
  on_each_lem zero f r h = absurd (false≢true h)
  on_each_lem (suc k) f (act {p = p} {b = b} {e = e} q s d) h =
      where_two (T.starts (field_x P p) b) (eqb e (b + T.duration (field_x P p))) _ (by_form (on_each k P T) p b e f q h) s (eq-eqb _ _ d)
  on_each_lem (suc k) f (test {p = p} {b = b} {e = e} q t d) h =
      where_two (eqb (T.value (field_x P p) b) holds) (eqb e b) _ (by_form (on_each k P T) p b e f q h) (eq-eqb _ _ t) (eq-eqb _ _ d)
  on_each_lem (suc k) f (sequence {p = p} {b = b} {m = m} {e = e} q l r) h =
      let R = on_each k P T in
      let g : List ℕ → Bool = λ ws. f (reading_word p b e ∷ ws) in
      let z = at (λ m. R whole (field_x P p) b m (λ us. R whole (field_y P p) m e (λ vs. g (us ++ vs)))) (by_form R p b e f q h) (onward r) in
      parts R (λ f o p b e ws. on_each_lem k f) g z l r
  on_each_lem (suc k) f (first {p = p} {b = b} {e = e} q l) h =
      on_each_lem k (λ us. f (reading_word p b e ∷ us)) l (both_true _ _ (by_form (on_each k P T) p b e f q h)).0
  on_each_lem (suc k) f (second {p = p} {b = b} {e = e} q r) h =
      on_each_lem k (λ us. f (reading_word p b e ∷ us)) r (both_true (on_each k P T whole (field_x P p) b e (λ us. f (reading_word p b e ∷ us))) _ (by_form (on_each k P T) p b e f q h)).1
  on_each_lem (suc k) f (taken {p = p} {b = b} {e = e} q t l) h =
      on_each_lem k (λ us. f (reading_word p b e ∷ us)) l (implies_true _ _ (both_true _ _ (by_form (on_each k P T) p b e f q h)).0 (eq-eqb _ _ t))
  on_each_lem (suc k) f (otherwise {p = p} {b = b} {e = e} q t r) h =
      on_each_lem k (λ us. f (reading_word p b e ∷ us)) r
      (implies_true _ _ (both_true (implies (eqb (T.value (field_x P p) b) holds) (on_each k P T whole (field_y P p) b e (λ us. f (reading_word p b e ∷ us)))) _ (by_form (on_each k P T) p b e f q h)).1 (eq-eqb _ _ t))
  on_each_lem (suc k) f (loop {p = p} {b = b} {e = e} q l) h = on_each_lem k (λ us. f (reading_word p b e ∷ us)) l (by_form (on_each k P T) p b e f q h)
  on_each_lem (suc k) f (done {p = p} {b = b} {e = e} t d) h =
      where_two (eqb (T.value (field_x P p) b) fails) (eqb e b) _ (both_true _ _ h).0 (eq-eqb _ _ t) (eq-eqb _ _ d)
  on_each_lem (suc k) f (pass {p = p} {b = b} {m = m} {e = e} {us = us} t later l r) h =
      let R = on_each k P T in
      let z = at (λ m. implies (leb (suc b) m) (R whole (field_y P p) b m (λ us. R passes p m e (λ vs. f (us ++ vs))))) (implies_true _ _ (both_true (implies (eqb (T.value (field_x P p) b) fails && eqb e b) (f [])) _ h).1 (eq-eqb _ _ t)) (onward r) in
      on_each_lem k (λ vs. f (us ++ vs)) r (on_each_lem k (λ us. R passes p m e (λ vs. f (us ++ vs))) l (implies_true _ _ z (le-leb (suc b) m (omega arith))))
  on_each_lem (suc k) f (start_window {p = p} {b = b} {k = c} {m = m} {l = d} {e = e} q l r lo hi g) h =
      let R = on_each k P T in
      let f' : List ℕ → Bool = λ ws. f (reading_word p b e ∷ ws) in
      let end-of-y = onward r in
      let inner : ℕ → ℕ → ℕ → Bool = λ m c d. R whole (field_x P p) b c (λ us. R whole (field_y P p) m d (λ vs. f' (us ++ vs))) in
      let z = at (λ m. implies (within (b + field_m P p) (b + field_n P p) m) (all_below (λ c. all_below (λ d. implies (eqb e (max c d)) (inner m c d)) (suc e)) (suc e))) {m = m} (by_form R p b e f q h) (omega arith) in
      let y = at (λ c. all_below (λ d. implies (eqb e (max c d)) (inner m c d)) (suc e)) {m = c} (inside (b + field_m P p) (b + field_n P p) m z lo hi) (omega arith) in
      let x = at (λ d. implies (eqb e (max c d)) (inner m c d)) {m = d} y (omega arith) in
      parts R (λ f o p b e ws. on_each_lem k f) f' (implies_true _ _ x (eq-eqb _ _ g)) l r
  on_each_lem (suc k) f (end_window {p = p} {b = b} {k = c} {m = m} {e = e} q l r lo hi quiet) h =
      let R = on_each k P T in
      let f' : List ℕ → Bool = λ ws. f (reading_word p b e ∷ ws) in
      let later = onward r in
      let inner : ℕ → ℕ → Bool = λ c m. R whole (field_x P p) b c (λ us. R whole (field_y P p) m e (λ vs. f' (us ++ vs))) in
      let z = at (λ c. all_below (λ m. implies (within (c + field_m P p) (c + field_n P p) m) (inner c m)) (suc e)) {m = c} (by_form R p b e f q h) (omega arith) in
      let y = at (λ m. implies (within (c + field_m P p) (c + field_n P p) m) (inner c m)) {m = m} z later in
      parts R (λ f o p b e ws. on_each_lem k f) f' (inside (c + field_m P p) (c + field_n P p) m y lo hi) l r
  on_each_lem (suc k) f (set {p = p} {b = b} {e = e} q rs pl) h =
      members (on_each k P T) (λ f o p b e ws. on_each_lem k f) (P.members p) e (length (P.members p)) (λ ws. f (reading_word p b e ∷ ws)) (by_form (on_each k P T) p b e f q h) rs
      (λ i l. let g = pl.inside i l in (g.1, g.2))
