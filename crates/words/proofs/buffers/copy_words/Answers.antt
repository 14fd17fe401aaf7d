-- `words::buffers::copy_words` meets its contract. Assumes nothing.
use Rattle.std.proofs.Common.{List, ◌≡◌, ◌+◌, ◌≤◌, ◌++◌, length, take, drop, ℕ, sym, arith}
use Rattle.std.proofs.lemmas.List.{append_assoc, drop-drop}
use Rattle.std.proofs.lemmas.List.Edits.{sets, sets-eq}
use Rattle.words.proofs.buffers.copy_words.Goals as goal

copied : (buffer list new : List ℕ) (at n : ℕ) → at + length list ≤ length buffer → n ≡ length list → new ≡ list
    → take at buffer ++ (new ++ drop n (drop at buffer)) ≡ sets buffer at list
copied buffer list new at n fits size same = rw (size, same, drop-drop (length list) at buffer, sets-eq list buffer at fits) (sym (append_assoc (take at buffer) list (drop (at + length list) buffer)))

pub returns : goal.returns
returns c = copied _ _ _ _ _ c.requires (omega arith) c.copy_from_slice.ensures.after
