-- The digits that `io` makes are the decimal text and the hexadecimal lines of specs/Report.antt. Assumes nothing.
use Prim.Native.Nat.{ℕ, zero, suc, ◌+◌, ◌*◌, ◌-◌, ◌/◌, ◌%◌, ◌^◌, ◌≤◌, ◌<◌}
use native.Mathlib.Nat.{one-le-pow, pow-le-pow_right, pow-suc}
use native.Mathlib.Numerals.{add-one}
use native.Mathlib.Decide.{dec_lt}
use native.Mathlib.Omega.{arith}
use mathlib.Core.Logic.{by_cases}
use mathlib.Core.Path.{◌≡◌, refl, sym, ap, ◌∙◌, subst}
use mathlib.Core.List.{List, [], ◌∷◌, ◌++◌, append_assoc, append-nil}
use borrow.Author.Tests.{lt-ltb, le-ltb}
use lib.ListN.{length, take, get_or, length-append}
use lib.Seq.{take-suc}
use Rattle.io.specs.Digits.{hex_digit_ascii, last_digits, IsDigitCount}
use Rattle.text.specs.Report.{decimal_in, decimal_of, hex_line, hex_lines}
use Rattle.text.specs.declared.report.Text.{Text}
use Rattle.text.specs.Code.Written.{Appended}
use Rattle.text.proofs.Texts.{then}

pub length_digits : (b k n : ℕ) → length (last_digits b k n) ≡ k
length_digits b zero n = refl
length_digits b (suc k) n = length-append (last_digits b k (n / b)) (hex_digit_ascii (n % b) ∷ []) ∙ omega (arith, length_digits b k (n / b))

pub length-hex_line : (w : ℕ) → length (hex_line w) ≡ 9
unfolding hex_line
length-hex_line w = length-append (last_digits 16 8 w) (10 ∷ []) ∙ omega (arith, length_digits 16 8 w)

pub length-hex_lines : (ws : List ℕ) → length (hex_lines ws) ≡ length ws * 9
unfolding hex_lines
length-hex_lines [] = refl
length-hex_lines (w ∷ ws) = length-append (hex_line w) (hex_lines ws) ∙ omega (arith, length-hex_line w, length-hex_lines ws)

-- one place more is ten times as much
tenfold : (j : ℕ) → 10 ^ (suc (suc j) - 1) ≡ 10 ^ (suc j - 1) * 10
tenfold j = ap (λ (k : ℕ). 10 ^ k) (omega arith) ∙ pow-suc 10 (suc j - 1)

-- the fewest digits that hold n are its decimal text
pub decimal_is : (f k n : ℕ) → k ≤ f → IsDigitCount 10 1 n k → last_digits 10 k n ≡ decimal_in f n
unfolding decimal_in
decimal_is zero k n h w = absurd (omega (arith, w.0))
decimal_is (suc f) zero n h w = absurd (omega (arith, w.0))
decimal_is (suc f) (suc zero) n h w =
    let small : n < 10 = w.1 in
    let same : n % 10 ≡ n = omega arith in
    rw (lt-ltb n 10 small) (ap (λ (d : ℕ). hex_digit_ascii d ∷ []) same ∙ rw (lt-ltb n 10 small))
decimal_is (suc f) (suc (suc j)) n h w =
    let large : 10 ≤ n = omega (arith, tenfold j, w.2 (omega arith), one-le-pow (suc j - 1) 10 (omega arith)) in
    let fewer : IsDigitCount 10 1 (n / 10) (suc j) = (omega arith, omega (arith, w.1, pow-suc 10 (suc j)), λ _. omega (arith, tenfold j, w.2 (omega arith))) in
    rw (le-ltb n 10 large, decimal_is f (suc j) (n / 10) (omega arith) fewer)

-- a number below b ^ m takes no more than m digits, where no more are asked
pub few : (b least m n k : ℕ) → 0 < b → least ≤ m → n < b ^ m → IsDigitCount b least n k → k ≤ m
few b least m n k base h small w = by_cases (dec_lt m k) (λ more. absurd (too_many more)) (λ enough. omega arith)
  where
    too_many : m < k → ⊥
    too_many more =
        let most : b ^ m ≤ b ^ (k - 1) = pow-le-pow_right {n = b} base {i = m} {j = k - 1} (omega arith) in
        omega (arith, w.2 (omega arith))

-- the hexadecimal digits of a 32-bit word, where eight are asked, are eight
pub eight : {word n k : ℕ} → n ≡ word → word < 2 ^ 32 → IsDigitCount 16 8 n k → k ≡ 8
eight {word} {n} {k} e fits w = omega (arith, w.0, few 16 8 8 n k (omega arith) (omega arith) (omega arith) w)

-- the digits that `io` makes, as this crate's texts
pub decimal_end : {old new : Text} (n k : ℕ) (text : List ℕ) → text ≡ last_digits 10 k n → IsDigitCount 10 1 n k → n < 2 ^ 64 → Appended old text new → Appended old (decimal_of n) new × (new.end ≤ old.end + 20)
unfolding decimal_of
decimal_end {old} {new} n k text e fewest fits h =
    let most : k ≤ 20 = few 10 1 20 n k (omega arith) (omega arith) (omega arith) fewest in
    (subst (λ (t : List ℕ). Appended old t new) (e ∙ decimal_is 20 k n most fewest) h, omega (arith, h.ends, ap length e, length_digits 10 k n))

pub hex_end : {old mid new : Text} (word n k : ℕ) (text : List ℕ) → n ≡ word → text ≡ last_digits 16 k n → IsDigitCount 16 8 n k → word < 2 ^ 32 → Appended old text mid → Appended mid (10 ∷ []) new → Appended old (hex_line word) new
unfolding hex_line
hex_end {old} {mid} {new} word n k text same e fewest fits first next =
    let digits : text ≡ last_digits 16 8 word = cc (e, same, eight same fits fewest) in
    subst (λ (t : List ℕ). Appended old (t ++ (10 ∷ [])) new) digits (then first next)

lines_append : (v w : List ℕ) → hex_lines (v ++ w) ≡ hex_lines v ++ hex_lines w
unfolding hex_lines
lines_append [] w = refl
lines_append (x ∷ v) w = rw (lines_append v w, append_assoc)

-- the lines of one word more
pub lines_more : (ws : List ℕ) (i : ℕ) → i < length ws → hex_lines (take (i + 1) ws) ≡ hex_lines (take i ws) ++ hex_line (get_or ws i 0)
unfolding hex_lines
lines_more ws i h = rw (add-one, take-suc ws i 0 h, lines_append (take i ws) (get_or ws i 0 ∷ []), append-nil (hex_line (get_or ws i 0)))

-- one line more, and all lines
pub line_more : {old mid new : Text} (ws : List ℕ) (i : ℕ) → i < length ws → Appended old (hex_lines (take i ws)) mid → Appended mid (hex_line (get_or ws i 0)) new → Appended old (hex_lines (take (i + 1) ws)) new
line_more {old} {mid} {new} ws i h first next =
    subst (λ (t : List ℕ). Appended old t new) (sym (lines_more ws i h)) (then first next)

pub lines_all : {old new : Text} (ws : List ℕ) (i n : ℕ) → i ≡ n → Appended old (hex_lines (take i ws)) new → Appended old (hex_lines (take n ws)) new
lines_all {old} {new} ws i n e h = subst (λ (k : ℕ). Appended old (hex_lines (take k ws)) new) e h
