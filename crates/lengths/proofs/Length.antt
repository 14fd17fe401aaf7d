-- The length bound: every reading of the root that ends at n or before has at most `length_bound` words, and that is at most 4,032.
-- A node below a loop weighs n, for the loop's passes share out its moments; any other node is read once at most. A reading of any other node
-- has at most 4,032 words too. Assumes nothing.
use mathlib.Core.Path.{◌≡◌, refl, ap, ap₂, ◌∙◌}
use mathlib.Core.Bool.{true, false, ◌||◌, or-true}
use mathlib.Core.List.{List, [], ◌∷◌}
use Prim.Native.Nat.{ℕ, zero, suc, ◌+◌, ◌-◌, ◌*◌, ◌≤◌, ◌<◌, max}
use native.Mathlib.Nat.{le_refl, le_trans, mul-le-mul, mul-le-mul_left}
use native.Mathlib.Omega.{arith}
use lib.ListN.{length, length-append}
use Rattle.model.specs.Trajectory.{Trajectory}
use Rattle.model.specs.Procedure.{Procedure}
use Rattle.model.specs.Forms.{Form, Act, Test, Sequence, Choice, If, While, StartWindow, EndWindow, Set, form_at, field_x, field_y, field_m}
use Rattle.model.specs.Code.Forms.{children_as, children, NamedOnce}
use Rattle.reading.specs.Reading.{whole, Reading, act, test, sequence, first, second, taken, otherwise, loop, start_window, end_window, set}
use Rattle.reading.proofs.Step.{onward}
use Rattle.words.specs.Scan.{count}
use Rattle.lengths.specs.Code.Bound.{is_while, loop_above, weight, length_bound}
use Rattle.words.proofs.Choices.{cond-all}
use Rattle.bitset.proofs.Sums.{sum-le}
use Rattle.lengths.proofs.Sums.{total, times_at, below_times, total-cong, total-mul, joined_le}
use Rattle.lengths.proofs.Tree.{Lower, branch, branch_is, branch_le, root_is}
use Rattle.lengths.proofs.Words.{nodes, words_le}
use Rattle.lengths.proofs.Loops.{root_free, child_above}

module _ {P : Procedure} (low : Lower P) (once : NamedOnce P) (n : ℕ) where
  -- a child's number is lower, and a loop is above it where its parent is one or is below one
  child : {p : ℕ} (k : Form) → form_at P p ≡ k → p < P.count → (q : ℕ) → 0 < count q (children_as P k p)
      → (q < p) × (loop_above P q ≡ (is_while k || loop_above P p))
  child {p} k f l q h =
      let here : 0 < count q (children P p) = rw f h in
      (below_times q (children P p) (low.at p l) here, child_above low once p q l here ∙ ap (λ (g : Form). is_while g || loop_above P p) f)

  -- the nodes from p down weigh n each, where a loop is above p
  heavy : (k p : ℕ) → p < k → p < P.count → loop_above P p ≡ true → branch P (weight P n) p ≡ nodes P p * n
  heavy zero p h l t = absurd (omega arith)
  heavy (suc k) p h l t =
      let below : total (branch P (weight P n)) (children P p) ≡ total (nodes P) (children P p) * n
      = total-cong (children P p) (λ q i. let (lower, above) = child (form_at P p) refl l q i in
      heavy k q (omega arith) (omega arith) (above ∙ rw t (or-true (is_while (form_at P p))))) ∙ total-mul (nodes P) n (children P p) in
      let own : weight P n p ≡ n = rw t refl in
      let one = branch_is low (λ q. 1) p l in
      branch_is low (weight P n) p l ∙ ap₂ ◌+◌ own below ∙ rw one (omega arith)

  -- what a node that is no loop and below none weighs
  module _ {p : ℕ} (k : Form) (f : form_at P p ≡ k) (l : p < P.count) (t : loop_above P p ≡ false) where
    light : branch P (weight P n) p ≡ 1 + total (branch P (weight P n)) (children_as P k p)
    light = let own : weight P n p ≡ 1 = rw t refl in branch_is low (weight P n) p l ∙ ap₂ ◌+◌ own (ap (λ (g : Form). total (branch P (weight P n)) (children_as P g p)) f)

    free : is_while k ≡ false → (q : ℕ) → 0 < count q (children_as P k p) → (q < P.count) × (loop_above P q ≡ false)
    free w q h = let (lower, above) = child k f l q h in (omega arith, above ∙ ap₂ ◌||◌ w t)

  -- the words of a node that no loop is above
  light_le : {T : Trajectory} {p b e : ℕ} {ws : List ℕ} → Reading P T whole p b e ws → p < P.count → loop_above P p ≡ false → e ≤ n
      → length ws ≤ branch P (weight P n) p
  unfolding total
  light_le (act f s d) l t h = omega (arith, light Act f l t)
  light_le (test f s d) l t h = omega (arith, light Test f l t)
  light_le {p = p} (sequence f x y) l t h =
      let (lx, tx) = free Sequence f l t refl _ (times_at (field_x P p ∷ field_y P p ∷ []) 0 (omega arith)) in
      let (ly, ty) = free Sequence f l t refl _ (times_at (field_x P p ∷ field_y P p ∷ []) 1 (omega arith)) in
      let hx = onward x in
      let hy = onward y in
      rw length-append (omega (arith, light Sequence f l t, light_le x lx tx (omega arith), light_le y ly ty (omega arith)))
  light_le {p = p} (first f x) l t h =
      let (lx, tx) = free Choice f l t refl _ (times_at (field_x P p ∷ field_y P p ∷ []) 0 (omega arith)) in omega (arith, light Choice f l t, light_le x lx tx h)
  light_le {p = p} (second f x) l t h =
      let (lx, tx) = free Choice f l t refl _ (times_at (field_x P p ∷ field_y P p ∷ []) 1 (omega arith)) in omega (arith, light Choice f l t, light_le x lx tx h)
  light_le {p = p} (taken f s x) l t h =
      let (lx, tx) = free If f l t refl _ (times_at (field_y P p ∷ field_m P p ∷ []) 0 (omega arith)) in omega (arith, light If f l t, light_le x lx tx h)
  light_le {p = p} (otherwise f s x) l t h =
      let (lx, tx) = free If f l t refl _ (times_at (field_y P p ∷ field_m P p ∷ []) 1 (omega arith)) in omega (arith, light If f l t, light_le x lx tx h)
  light_le {p = p} {b = b} {e = e} (loop f r) l t h =
      let (lower, above) = child While f l (field_y P p) (times_at (field_y P p ∷ []) 0 (omega arith)) in
      let passes = words_le low r (omega arith) in
      omega (arith, light While f l t, heavy P.count (field_y P p) (omega arith) (omega arith) above, mul-le-mul_left {m = e - b} {n = n} (nodes P (field_y P p)) (omega arith))
  light_le {p = p} (start_window f x y g k d) l t h =
      let (lx, tx) = free StartWindow f l t refl _ (times_at (field_x P p ∷ field_y P p ∷ []) 0 (omega arith)) in
      let (ly, ty) = free StartWindow f l t refl _ (times_at (field_x P p ∷ field_y P p ∷ []) 1 (omega arith)) in
      let hx = onward x in
      let hy = onward y in
      rw length-append (omega (arith, light StartWindow f l t, light_le x lx tx (omega arith), light_le y ly ty (omega arith)))
  light_le {p = p} (end_window f x y g k q) l t h =
      let (lx, tx) = free EndWindow f l t refl _ (times_at (field_x P p ∷ field_y P p ∷ []) 0 (omega arith)) in
      let (ly, ty) = free EndWindow f l t refl _ (times_at (field_x P p ∷ field_y P p ∷ []) 1 (omega arith)) in
      let hx = onward x in
      let hy = onward y in
      rw length-append (omega (arith, light EndWindow f l t, light_le x lx tx (omega arith), light_le y ly ty (omega arith)))
  light_le {p = p} (set {us = us} f rs pl) l t h =
      let members = joined_le us (branch P (weight P n)) (P.members p)
      (λ i g. let (lx, tx) = free Set f l t refl _ (times_at (P.members p) i g) in
      let inside = pl.inside i g in
      light_le (rs i g) lx tx (omega arith)) in
      omega (arith, light Set f l t)

  pub length-le : {T : Trajectory} {r b e : ℕ} {ws : List ℕ} → suc r ≡ P.count → Reading P T whole r b e ws → e ≤ n → length ws ≤ length_bound P n
  unfolding length_bound
  length-le {r = r} c x h = rw (root_is low (weight P n) r c once) at (light_le x (omega arith) (root_free low r c) h)

weight-le : (P : Procedure) (n q : ℕ) → weight P n q ≤ max 1 n
weight-le P n q = cond-all (λ w. w ≤ max 1 n) (loop_above P q) (omega arith) (omega arith)

pub bound_le : (P : Procedure) (n : ℕ) → length_bound P n ≤ P.count * max 1 n
unfolding length_bound
bound_le P n = sum-le P.count (max 1 n) (λ q l. weight-le P n q)

pub bound_4032 : (P : Procedure) (n : ℕ) → P.count ≤ 64 → n < 64 → length_bound P n ≤ 4032
bound_4032 P n c h = let long : max 1 n ≤ 63 = omega arith in le_trans (bound_le P n) (le_trans (mul-le-mul c long) (omega arith))

-- a reading of any node
pub words_4032 : {P : Procedure} → Lower P → NamedOnce P → P.count ≤ 64 → {n : ℕ} → n < 64 → {T : Trajectory} {p b e : ℕ} {ws : List ℕ} → p < P.count → e ≤ n
    → Reading P T whole p b e ws → length ws ≤ 4032
words_4032 {P} low once few {n} soon {p = p} {b = b} {e = e} l h r =
    let most : nodes P p ≤ 64 = omega (arith, branch_le low (λ q. 1) p l once, sum-le {f = λ q. 1} (suc p) 1 (λ q i. le_refl 1)) in
    let long : max 1 (e - b) ≤ 63 = omega arith in
    le_trans (words_le low r l) (le_trans (mul-le-mul most long) (omega arith))
