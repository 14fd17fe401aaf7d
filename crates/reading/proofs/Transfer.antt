-- Readings go over from one procedure and trajectory to others that agree with them where a reading looks, and that know at least as much:
-- the starts are the same, and a formula's value is the same there, or was open. Assumes nothing.
use Prim.Native.Nat.{ℕ, ◌+◌, ◌<◌, ◌≤◌}
use mathlib.Core.Bool.{true}
use mathlib.Core.Path.{◌≡◌, refl, sym, ap, ◌∙◌, subst}
use mathlib.Core.Logic.{◌⊎◌, inl, inr}
use mathlib.Core.List.{List, ◌∷◌}
use native.Mathlib.Omega.{arith}
use lib.ListN.{length, get_or}
use Rattle.words.specs.Scan.{concat_below}
use Rattle.words.specs.Fields.{fails, unknown, holds, reading_word, condition_formula, condition_i, condition_j, condition_m, condition_n}
use Rattle.model.specs.Trajectory.{Trajectory}
use Rattle.model.specs.Procedure.{Procedure}
use Rattle.sets.specs.Set.{TaskSet, Placing, MetAs}
use Rattle.sets.specs.Code.Set.{Formed}
use Rattle.model.specs.Forms.{Act, While, form_at, field_x, ConditionForm, BeginAfterBegin, BeginAfterEnd, HoldsBefore, HoldsAfter, HoldsBetween, ReservedCondition, condition_form}
use Rattle.model.specs.Code.Forms.{asks_formula}
use Rattle.model.specs.Code.Represents.{Asks}
use Rattle.model.proofs.Forms.{at-below}
use Rattle.reading.specs.Code.Forms.{NodeReadable}
use Rattle.reading.specs.Reading.{Mode, whole, passes, Reading, act, test, sequence, first, second, taken, otherwise, loop, done, pass, start_window, end_window, set, HasReading}
use Rattle.reading.proofs.Step.{onward}

-- a value that is the same, or was open
abbrev pub Kept : ℕ → ℕ → Type 0
Kept v v' = (v ≡ unknown) ⊎ (v' ≡ v)

pub record Extends (P : Procedure) (T : Trajectory) (P' : Procedure) (T' : Trajectory) : Type 0 where
  pub last : T'.last ≡ T.last
  pub node : (p : ℕ) → p < P.count → P'.node p ≡ P.node p
  pub members : (p : ℕ) → p < P.count → P'.members p ≡ P.members p
  pub conditions : (p : ℕ) → p < P.count → P'.conditions p ≡ P.conditions p
  pub starts : (a t : ℕ) → T'.starts a t ≡ T.starts a t
  pub durations : (p : ℕ) → p < P.count → form_at P p ≡ Act → T'.duration (field_x P p) ≡ T.duration (field_x P p)
  pub values : (p k t : ℕ) → p < P.count → Asks P (form_at P p) p k → t ≤ T.last → Kept (T.value k t) (T'.value k t)

-- a value that is known stays
held : {v v' : ℕ} → Kept v v' → v ≡ holds → v' ≡ holds
held (inl u) h = absurd (omega arith)
held (inr u) h = u ∙ h

lost : {v v' : ℕ} → Kept v v' → v ≡ fails → v' ≡ fails
lost (inl u) h = absurd (omega arith)
lost (inr u) h = u ∙ h

-- a condition stays met where the values are kept that it asks for, up to the last moment
met_kept : (value value' : ℕ → ℕ → ℕ) {n n' : ℕ} (k M N bi ei bj : ℕ) (f : ConditionForm) → n' ≡ n → bi ≤ n → bj ≤ n
    → (asks_formula f ≡ true → (t : ℕ) → t ≤ n → value k t ≡ holds → value' k t ≡ holds) → MetAs f value n k M N bi ei bj → MetAs f value' n' k M N bi ei bj
met_kept value value' k M N bi ei bj BeginAfterBegin q h g v m = m
met_kept value value' k M N bi ei bj BeginAfterEnd q h g v m = m
met_kept value value' k M N bi ei bj HoldsBefore q h g v m = (m.0, λ t a b. v refl t (omega arith) (m.1 t a b))
met_kept value value' k M N bi ei bj HoldsAfter q h g v m = let l = m.0 in (omega arith, λ t a b. v refl t (omega arith) (m.1 t a b))
met_kept value value' k M N bi ei bj HoldsBetween q h g v m = λ t a b. v refl t (omega arith) (m t a b)
met_kept value value' k M N bi ei bj ReservedCondition q h g v m = absurd m

-- a set's placing stays lawful
placing_kept : {s s' : TaskSet} {b e : ℕ} {bs es : ℕ → ℕ} → Formed s → s'.members ≡ s.members → s'.conditions ≡ s.conditions → s'.last ≡ s.last
    → ((c t : ℕ) → c < length s.conditions → let w = get_or s.conditions c 0 in
    asks_formula (condition_form w) ≡ true → t ≤ s.last → s.value (condition_formula w) t ≡ holds → s'.value (condition_formula w) t ≡ holds)
    → Placing s b e bs es → Placing s' b e bs es
placing_kept {s} {s'} {bs = bs} {es = es} g ms cs q v h = record {
  onward = h.onward;
  within = rw q h.within;
  inside = rw ms h.inside;
  covers = rw ms h.covers;
  met = rw cs (λ c l.
      let w = get_or s.conditions c 0 in
      let i = h.inside (condition_i w) (g.named c l).0 in
      let j = h.inside (condition_j w) (g.named c l).1 in
      let u = h.within in
      met_kept s.value s'.value (condition_formula w) (condition_m w) (condition_n w) (bs (condition_i w)) (es (condition_i w)) (bs (condition_j w)) (condition_form w) q (omega arith) (omega arith) (λ a t b. v c t l a b) (h.met c l));
}

-- a loop's passes are those of a loop
abbrev InMode : Mode → Procedure → ℕ → Type 0
InMode whole P p = Unit {0}
InMode passes P p = form_at P p ≡ While

module _ {P P' : Procedure} {T T' : Trajectory} (x : Extends P T P' T') (formed : (p : ℕ) → p < P.count → NodeReadable P T p) where
  kept : {o : Mode} {p b e : ℕ} {ws : List ℕ} → p < P.count → InMode o P p → e ≤ T.last → Reading P T o p b e ws → Reading P' T' o p b e ws
  kept {p = p} {b} h o l (act f s d) =
      let g = sym (x.node p h) in
      act (rw g at f) (rw g at (x.starts _ _ ∙ s)) (rw g at (d ∙ ap (λ (k : ℕ). b + k) (sym (x.durations p h f))))
  kept {p = p} h o l (test f t d) =
      let g = sym (x.node p h) in
      test (rw g at f) (rw g at (held (x.values p _ _ h (rw f refl) (omega arith)) t)) d
  kept {p = p} h o l (sequence f u v) =
      let g = sym (x.node p h) in let c = rw f at (formed p h).lower in let k = onward v in
      sequence (rw g at f) (rw g at (kept (omega arith) tt (omega arith) u)) (rw g at (kept (omega arith) tt l v))
  kept {p = p} h o l (first f u) =
      let g = sym (x.node p h) in let c = rw f at (formed p h).lower in
      first (rw g at f) (rw g at (kept (omega arith) tt l u))
  kept {p = p} h o l (second f u) =
      let g = sym (x.node p h) in let c = rw f at (formed p h).lower in
      second (rw g at f) (rw g at (kept (omega arith) tt l u))
  kept {p = p} h o l (taken f t u) =
      let g = sym (x.node p h) in let c = rw f at (formed p h).lower in let k = onward u in
      taken (rw g at f) (rw g at (held (x.values p _ _ h (rw f refl) (omega arith)) t)) (rw g at (kept (omega arith) tt l u))
  kept {p = p} h o l (otherwise f t u) =
      let g = sym (x.node p h) in let c = rw f at (formed p h).lower in let k = onward u in
      otherwise (rw g at f) (rw g at (lost (x.values p _ _ h (rw f refl) (omega arith)) t)) (rw g at (kept (omega arith) tt l u))
  kept {p = p} h o l (loop f u) =
      let g = sym (x.node p h) in
      loop (rw g at f) (kept h f l u)
  kept {p = p} h o l (done t d) =
      let g = sym (x.node p h) in
      done (rw g at (lost (x.values p _ _ h (rw o refl) (omega arith)) t)) d
  kept {p = p} h o l (pass t m u v) =
      let g = sym (x.node p h) in let c = rw o at (formed p h).lower in let k = onward v in
      pass (rw g at (held (x.values p _ _ h (rw o refl) (omega arith)) t)) m (rw g at (kept (omega arith) tt (omega arith) u)) (kept h o l v)
  kept {p = p} h o l (start_window f u v i j d) =
      let g = sym (x.node p h) in let c = rw f at (formed p h).lower in
      start_window (rw g at f) (rw g at (kept (omega arith) tt (omega arith) u)) (rw g at (kept (omega arith) tt (omega arith) v)) (rw g at i) (rw g at j) d
  kept {p = p} h o l (end_window f u v i j q) =
      let g = sym (x.node p h) in let c = rw f at (formed p h).lower in let k = onward v in
      end_window (rw g at f) (rw g at (kept (omega arith) tt (omega arith) u)) (rw g at (kept (omega arith) tt l v)) (rw g at i) (rw g at j)
      (λ a t c d. x.starts a t ∙ q a t c d)
  kept {p = p} {b} {e} h o l (set {bs = bs} {es = es} {us = us} f r m) =
      let g = sym (x.node p h) in let ms = x.members p h in
      let c = rw f at (formed p h).lower in
      subst (λ (l : List ℕ). Reading P' T' whole p b e (reading_word p b e ∷ concat_below us (length l))) ms
      (set (rw g at f)
      (rw ms (λ i q. let y = m.inside i q in let z = at-below (P.members p) c i q in kept (omega arith) tt (omega arith) (r i q)))
      (placing_kept ((formed p h).set f) ms (x.conditions p h) x.last
      (λ c t q a b. held (x.values p _ t h (rw f (c, q, a, refl)) b))
      m))

  pub transfer : {p b e : ℕ} {ws : List ℕ} → p < P.count → e ≤ T.last → Reading P T whole p b e ws → Reading P' T' whole p b e ws
  transfer h l r = kept h tt l r

  pub ends_transfer : {p b e : ℕ} → p < P.count → HasReading P T p b e → HasReading P' T' p b e
  ends_transfer h r = let q = x.last in let l = r.0 in (omega arith, (r.1.0, kept h tt l r.1.1))
