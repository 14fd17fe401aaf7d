-- A trial as words: taken apart, and put back. Assumes nothing.
use mathlib.Core.List.{List, ◌∷◌, ◌++◌, append-nil}
use mathlib.Core.Path.{◌≡◌, ap, sym, ◌∙◌}
use Prim.Native.Nat.{ℕ, ◌≤◌}
use native.Mathlib.Nat.{zero-add}
use native.Mathlib.Omega.{arith}
use lib.ListN.{length, get_or, take, drop, set, replicate, length-drop, length-replicate, drop_of_length-le}
use lib.Seq.{sets, sets-eq, length-take-le, length_front}
use Rattle.moves.specs.Calls.{trial_words, trial_in}
use Rattle.trial.specs.declared.Trial.{Trial}
use Rattle.trial.specs.Stepped.{trial_of, Sized}
use Rattle.trial.proofs.Judging.{starts_taken}

-- a list written over an array of as many words
pub copied_whole : (zeros list : List ℕ) {r : List ℕ} → length list ≡ length zeros → r ≡ sets zeros 0 list → r ≡ list
copied_whole zeros list e is =
    is ∙ sets-eq list zeros 0 (omega arith) ∙ rw (zero-add (length list), drop_of_length-le zeros {i = length list} (omega arith), append-nil list)

-- the trial that words say, by what is copied from them
pub said : (words : List ℕ) {starts : List ℕ} → 4098 ≤ length words → starts ≡ sets (replicate 4096 0) 0 (take 4096 (drop 2 words))
    → trial_of (record { moment = get_or words 0 0; length = get_or words 1 0; starts = starts }) ≡ trial_in words
said words room e =
    let n : length (take 4096 (drop 2 words)) ≡ 4096 = length-take-le 4096 (drop 2 words) (rw length-drop (omega arith)) in
    rw (copied_whole (replicate 4096 0) (take 4096 (drop 2 words)) (n ∙ sym (length-replicate {A = ℕ} 4096 0)) e)

-- a trial's words, in front of others
module _ (t : Trial) (s : Sized t) where
  front : trial_words (trial_of t) ≡ t.moment ∷ t.length ∷ take t.length t.starts
  front = rw (starts_taken t s.size s.few, length-take-le t.length t.starts (omega (arith, s.size, s.few)))

  few : length (t.moment ∷ t.length ∷ take t.length t.starts) ≤ 4098
  few = omega (arith, s.few, length-take-le t.length t.starts (omega (arith, s.size, s.few)))

  module _ (words : List ℕ) (room : 4098 ≤ length words) where
    pub handed_size : length (trial_words (trial_of t) ++ drop (length (trial_words (trial_of t))) words) ≡ length words
    handed_size =
        let whole : List ℕ = t.moment ∷ t.length ∷ take t.length t.starts in
        ap (λ (l : List ℕ). length (l ++ drop (length l) words)) front
        ∙ length_front words whole (length whole) (sym (length-take-le (length whole) words (omega (arith, few))))

    pub stored : {r : List ℕ} → r ≡ sets (set (set words 0 t.moment) 1 t.length) 2 (take t.length t.starts)
        → r ≡ trial_words (trial_of t) ++ drop (length (trial_words (trial_of t))) words
    stored is =
        let whole : List ℕ = t.moment ∷ t.length ∷ take t.length t.starts in
        is ∙ rw zero-add at (sets-eq whole words 0 (omega (arith, few))) ∙ ap (λ (l : List ℕ). l ++ drop (length l) words) (sym front)
