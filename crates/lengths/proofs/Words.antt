-- A reading of node p from b to e has at most as many words as there are nodes from p down, times the moments that it takes (at least 1):
-- a loop's passes share out its moments. Assumes nothing.
use mathlib.Core.Logic.{◌⊎◌, inl, inr}
use mathlib.Core.Path.{◌≡◌}
use mathlib.Core.List.{List}
use Prim.Native.Nat.{ℕ, suc, ◌+◌, ◌-◌, ◌*◌, ◌≤◌, ◌<◌, max, zero-le}
use native.Mathlib.Nat.{le_trans, mul-le-mul_left, le-max_left, le-max_right}
use native.Mathlib.Omega.{arith}
use lib.ListN.{length, get_or, length-append}
use Rattle.words.specs.Scan.{concat_below}
use Rattle.model.specs.Trajectory.{Trajectory}
use Rattle.model.specs.Procedure.{Procedure}
use Rattle.model.specs.Forms.{Form, Act, Test, Sequence, Choice, If, While, StartWindow, EndWindow, Set, form_at, field_y}
use Rattle.model.specs.Code.Forms.{children_as, children, Below}
use Rattle.reading.specs.Code.Forms.{NodeReadable}
use Rattle.reading.specs.Reading.{Mode, whole, passes, Reading, act, test, sequence, first, second, taken, otherwise, loop, done, pass, start_window, end_window, set}
use Rattle.reading.proofs.Step.{onward}
use Rattle.model.proofs.Forms.{at-below, below_le}
use Rattle.lengths.proofs.Sums.{total, total-mul, joined_le}
use Rattle.lengths.proofs.Tree.{Lower, branch, branch_is}

-- a procedure whose nodes are formed has children with lower numbers
pub lower : {P : Procedure} {T : Trajectory} → ((p : ℕ) → p < P.count → NodeReadable P T p) → Lower P
lower h = record { at = λ p l. (h p l).lower }

-- the words of two parts, of the sizes u and v, and the node's own
two : (s u v d d₁ d₂ i j : ℕ) → s ≡ 1 + (u + (v + 0)) → 1 ≤ d → d₁ ≤ d → d₂ ≤ d → i ≤ u * d₁ → j ≤ v * d₂ → suc (i + j) ≤ s * d
two s u v d d₁ d₂ i j e h h₁ h₂ l₁ l₂ = rw e (omega (arith, mul-le-mul_left u h₁, mul-le-mul_left v h₂))

-- of either of them
either : (s u v d i : ℕ) → s ≡ 1 + (u + (v + 0)) → 1 ≤ d → (i ≤ u * d) ⊎ (i ≤ v * d) → suc i ≤ s * d
either s u v d i e h (inl l) = rw e (omega arith)
either s u v d i e h (inr l) = rw e (omega arith)

-- of parts of the size t
part : (s t d i : ℕ) → s ≡ 1 + t → 1 ≤ d → i ≤ t * d → suc i ≤ s * d
part s t d i e h l = rw e (omega arith)

-- what two stretches of time share out
share : (v d₁ d₂ d i j : ℕ) → d₁ + d₂ ≡ d → i ≤ v * d₁ → j ≤ v * d₂ → i + j ≤ v * d
share v d₁ d₂ d i j e l₁ l₂ = rw (← e) (omega arith)

longer : {d d' : ℕ} → d ≤ d' → max 1 d ≤ max 1 d'
longer h = omega arith

-- how many nodes there are from p down
abbrev pub nodes : Procedure → ℕ → ℕ
nodes P p = branch P (λ q. 1) p

-- the bound on a node's words, and on those of a loop's passes
abbrev pub AtMost : Procedure → Mode → ℕ → ℕ → ℕ → List ℕ → Type 0
AtMost P whole p b e ws = p < P.count → length ws ≤ nodes P p * max 1 (e - b)
AtMost P passes p b e ws = field_y P p < P.count → length ws ≤ nodes P (field_y P p) * (e - b)

module _ {P : Procedure} (low : Lower P) where
  nodes_as : {p : ℕ} (k : Form) → form_at P p ≡ k → p < P.count → (nodes P p ≡ 1 + total (nodes P) (children_as P k p)) × Below P.count (children_as P k p)
  nodes_as {p} k f l = rw (← f) (branch_is low (λ q. 1) p l, below_le (children P p) (omega arith) (low.at p l))

  pub words_le : {T : Trajectory} {o : Mode} {p b e : ℕ} {ws : List ℕ} → Reading P T o p b e ws → AtMost P o p b e ws
  unfolding total
  words_le {b = b} {e = e} (act f s d) = λ n. part _ 0 _ 0 (nodes_as Act f n).0 (le-max_left 1 (e - b)) zero-le
  words_le {b = b} {e = e} (test f t d) = λ n. part _ 0 _ 0 (nodes_as Test f n).0 (le-max_left 1 (e - b)) zero-le
  words_le {b = b} {e = e} (sequence f x y) = λ n.
      let (s, l) = nodes_as Sequence f n in
      let hx = onward x in
      let hy = onward y in
      rw length-append (two _ _ _ _ _ _ _ _ s (le-max_left 1 (e - b)) (longer (omega arith)) (longer (omega arith)) (words_le x l.0) (words_le y l.1.0))
  words_le {b = b} {e = e} (first f x) = λ n.
      let (s, l) = nodes_as Choice f n in either _ _ _ _ _ s (le-max_left 1 (e - b)) (inl (words_le x l.0))
  words_le {b = b} {e = e} (second f y) = λ n.
      let (s, l) = nodes_as Choice f n in either _ _ _ _ _ s (le-max_left 1 (e - b)) (inr (words_le y l.1.0))
  words_le {b = b} {e = e} (taken f t y) = λ n.
      let (s, l) = nodes_as If f n in either _ _ _ _ _ s (le-max_left 1 (e - b)) (inl (words_le y l.0))
  words_le {b = b} {e = e} (otherwise f t y) = λ n.
      let (s, l) = nodes_as If f n in either _ _ _ _ _ s (le-max_left 1 (e - b)) (inr (words_le y l.1.0))
  words_le {p = p} {b = b} {e = e} (loop f r) = λ n.
      let (s, l) = nodes_as While f n in
      part _ _ _ _ s (le-max_left 1 (e - b)) (omega (arith, words_le r l.0, mul-le-mul_left (nodes P (field_y P p)) (le-max_right 1 (e - b))))
  words_le {b = b} {e = e} (start_window f x y g h d) = λ n.
      let (s, l) = nodes_as StartWindow f n in
      let hx = onward x in
      let hy = onward y in
      rw length-append (two _ _ _ _ _ _ _ _ s (le-max_left 1 (e - b)) (longer (omega arith)) (longer (omega arith)) (words_le x l.0) (words_le y l.1.0))
  words_le {b = b} {e = e} (end_window f x y g h q) = λ n.
      let (s, l) = nodes_as EndWindow f n in
      let hx = onward x in
      let hy = onward y in
      rw length-append (two _ _ _ _ _ _ _ _ s (le-max_left 1 (e - b)) (longer (omega arith)) (longer (omega arith)) (words_le x l.0) (words_le y l.1.0))
  words_le {p = p} {b = b} {e = e} (set {us = us} f rs pl) = λ n.
      let (s, l) = nodes_as Set f n in
      let members : length (concat_below us (length (P.members p))) ≤ total (λ q. nodes P q * max 1 (e - b)) (P.members p)
      = joined_le us (λ q. nodes P q * max 1 (e - b)) (P.members p)
      (λ i h. let g = pl.inside i h in
      le_trans (words_le (rs i h) (at-below (P.members p) l i h)) (mul-le-mul_left (nodes P (get_or (P.members p) i 0)) (longer (omega arith)))) in
      part _ _ _ _ s (le-max_left 1 (e - b)) (rw (total-mul (nodes P) (max 1 (e - b)) (P.members p)) at members)
  words_le (done t d) = λ n. zero-le
  words_le {b = b} {e = e} (pass {m = m} t g x r) = λ n.
      let hr = onward r in
      let long : max 1 (m - b) ≡ m - b = omega arith in
      rw length-append (share _ (m - b) (e - m) _ _ _ (omega arith) (rw long at (words_le x n)) (words_le r n))
