-- Laws of the words of bytes, written over the front of a buffer. Assumes nothing.
use Prim.Native.Nat.{ℕ, zero, suc, ◌+◌, ◌/◌, ◌<◌, ◌≤◌}
use native.Mathlib.Nat.{zero-add}
use native.Mathlib.Numerals.{add-one}
use mathlib.Core.Path.{◌≡◌, refl, sym, ◌∙◌}
use mathlib.Core.List.{List, [], ◌∷◌, ◌++◌}
use native.Mathlib.Omega.{arith}
use lib.ListN.{length, get_or, take, drop, set}
use lib.Seq.{paste-suc, length-take-le, take_all, take_at, drop_at}
use Rattle.text.specs.Files.{words_of}
use Rattle.std.specs.Int.{w32, from_le_bytes}
use Rattle.std.specs.Simd.{first_chunks}
use Rattle.text.specs.Code.Decoded.{Decoded}

-- d with the first n elements of s over its own first n
abbrev pub over : List ℕ → ℕ → List ℕ → List ℕ
over d n s = take n s ++ drop n d

-- a turn of a loop that copies: its store takes i elements to i + 1
pub over_more : (d s now : List ℕ) (i v : ℕ) → now ≡ over d i s → v ≡ get_or s i 0 → i < length d → i < length s → set now i v ≡ over d (i + 1) s
over_more d s now i v e ev hd hs = rw (e, ev, add-one) (simp zero-add at (paste-suc d 0 s i 0 (rw zero-add hd) hs))

pub length-words : (bytes : List ℕ) → length (words_of bytes) ≡ length bytes / 4
unfolding words_of
length-words [] = refl
length-words (a ∷ []) = refl
length-words (a ∷ b ∷ []) = refl
length-words (a ∷ b ∷ c ∷ []) = refl
length-words (a ∷ b ∷ c ∷ d ∷ rest) = omega (arith, length-words rest)

-- the word that `from_le_bytes` makes of four bytes
pub word_at : (bytes : List ℕ) (k i : ℕ) → i < k → k ≤ length bytes / 4 → from_le_bytes w32 (get_or (first_chunks 4 k bytes) i []) ≡ get_or (words_of bytes) i 0
unfolding words_of
word_at bytes zero i h l = absurd (omega arith)
word_at [] (suc k) i h l = absurd (omega arith)
word_at (a ∷ []) (suc k) i h l = absurd (omega arith)
word_at (a ∷ b ∷ []) (suc k) i h l = absurd (omega arith)
word_at (a ∷ b ∷ c ∷ []) (suc k) i h l = absurd (omega arith)
word_at (a ∷ b ∷ c ∷ d ∷ rest) (suc k) zero h l = refl
word_at (a ∷ b ∷ c ∷ d ∷ rest) (suc k) (suc i) h l = word_at rest k i (omega arith) (omega arith)

-- the words written over the front of out, as many as the bytes have, are what `decode` promises
pub decoded : (bytes old out : List ℕ) (n i : ℕ) → out ≡ over old i (words_of bytes) → i ≡ n → n ≡ length bytes / 4 → length out ≡ length old → length bytes / 4 ≤ length old
    → Decoded bytes old out n
decoded bytes old out n i so_far whole all same room =
    let e : out ≡ over old n (words_of bytes) = rw whole at so_far in
    let many : length (take n (words_of bytes)) ≡ n = length-take-le _ (words_of bytes) (omega (arith, length-words bytes)) in
    record {
      counts = (omega arith, sym (length-take-le _ out (omega arith)));
      words = rw e (take_at (take n (words_of bytes)) (drop n old) _ many ∙ take_all n (words_of bytes) (omega (arith, length-words bytes)));
      rest = rw e (drop_at (take n (words_of bytes)) (drop n old) _ many);
    }
