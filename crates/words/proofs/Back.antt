-- A walk over the words of a list from its end: those that are left are its first. Assumes nothing.
use mathlib.Core.List.{List, [], ◌∷◌, ◌++◌}
use mathlib.Core.Path.{◌≡◌, ap, sym, ◌∙◌}
use Prim.Native.Nat.{ℕ, ◌+◌, ◌≤◌, ◌<◌}
use native.Mathlib.Omega.{arith}
use lib.ListN.{length, get_or, take}
use Rattle.std.proofs.Math.Seq.{take-length, take-append_seam, get_or-append_seam}
use Rattle.std.proofs.lemmas.List.{length-append, get_or-take, take-take}

pub record Back (all left : List ℕ) : Type 0 where
  pub few : length left ≤ length all
  pub first : left ≡ take (length left) all

pub back_start : (all : List ℕ) → Back all all
back_start all = record { few = omega arith; first = sym (take-length all) }

-- one word more, which is the last of those that were left
pub record Taken (all left rest : List ℕ) (w : ℕ) : Type 0 where
  pub walk : Back all rest
  pub next : length left ≡ length rest + 1
  pub inside : length rest < length all
  pub word : get_or all (length rest) 0 ≡ w

pub back_taken : {all left : List ℕ} {w : ℕ} (rest : List ℕ) → Back all left → left ≡ rest ++ (w ∷ []) → Taken all left rest w
back_taken {all} {left} {w} rest b e = record {
  walk = record { few = omega (arith, next, b.few); first = sym (take-append_seam rest (w ∷ [])) ∙ ap (take (length rest)) (sym e ∙ b.first) ∙ shorter };
  next = next;
  inside = omega (arith, next, b.few);
  word =
      sym (get_or-take (length left) all (length rest) 0 (omega (arith, next)))
      ∙ ap (λ (l : List ℕ). get_or l (length rest) 0) (sym b.first ∙ e)
      ∙ get_or-append_seam rest w [] 0;
}
  where
    next : length left ≡ length rest + 1
    next = ap (λ (l : List ℕ). length l) e ∙ length-append rest (w ∷ [])

    shorter : take (length rest) (take (length left) all) ≡ take (length rest) all
    shorter = take-take (length rest) (length left) all (omega (arith, next))
