-- Lists written to a buffer, one after the other, and word by word. Assumes nothing.
use mathlib.Core.List.{List, [], ◌∷◌, ◌++◌}
use mathlib.Core.Path.{◌≡◌, sym, ◌∙◌}
use Prim.Native.Nat.{ℕ, suc, ◌+◌, ◌-◌, ◌≤◌}
use native.Mathlib.Nat.{add-zero, zero-add, add-suc, suc-add}
use native.Mathlib.Numerals.{add-one}
use native.Mathlib.Omega.{arith}
use lib.ListN.{length, take, drop, set, length-drop, length-append}
use lib.Seq.{sets, sets-eq, take-length, length-take-le, take-take, take_at}
use Rattle.words.specs.Scan.{take_while}
use Rattle.words.specs.Lists.{insert}
use Rattle.words.specs.Code.Place.{not_above}
use Rattle.words.proofs.Insert.{insert-split}

-- one list after another
pub sets_append : (vs ws l : List ℕ) (i : ℕ) → sets l i (vs ++ ws) ≡ sets (sets l i vs) (i + length vs) ws
sets_append [] ws l i = rw add-zero
sets_append (v ∷ vs) ws l i = rw (add-suc i (length vs)) (sets_append vs ws (set l i v) (suc i) ∙ rw suc-add)

-- a list written after the first n words of a buffer, which stay
pub sets_front : (buffer ws : List ℕ) (n : ℕ) → n + length ws ≤ length buffer → take (n + length ws) (sets buffer n ws) ≡ take n buffer ++ ws
sets_front buffer ws n h =
    rw (sets-eq ws buffer n h)
    (take_at (take n buffer ++ ws) (drop (n + length ws) buffer) (n + length ws) (rw (length-append, length-take-le n buffer (omega arith))))

pub sets_first : (buffer ws : List ℕ) → length ws ≤ length buffer → take (length ws) (sets buffer 0 ws) ≡ ws
sets_first buffer ws h = rw zero-add at (sets_front buffer ws 0 (rw zero-add h))

-- A list that is written after the first n words of a buffer leaves these as they were.
pub sets_before : (buffer ws : List ℕ) (n : ℕ) → n + length ws ≤ length buffer → take n (sets buffer n ws) ≡ take n buffer
sets_before buffer ws n h =
    let front = take n buffer in
    sym (take-take n (n + length ws) (sets buffer n ws) (omega arith))
    ∙ rw (sets_front buffer ws n h) (take_at front ws n (length-take-le n buffer (omega arith)))

-- the words that stay before w, then w, then the rest
module _ (buffer list : List ℕ) (w i : ℕ) {b : List ℕ} (p : b ≡ sets buffer 0 (take i list))
    {b' : List ℕ} (q : b' ≡ sets (set b i w) (i + 1) (take (length list - i) (drop i list))) where
  pub inserted : i ≡ length (take_while (not_above w) list) → i ≤ length list → b' ≡ sets buffer 0 (insert w list)
  inserted e l =
      let n : length (take i list) ≡ i = length-take-le i list l in
      let rest : take (length list - i) (drop i list) ≡ drop i list = rw (← length-drop i list) (take-length (drop i list)) in
      q ∙ rw (p, rest, insert-split w list, ← e, sets_append (take i list) (w ∷ drop i list) buffer 0, n, add-one i, zero-add)
