-- The starts and the facts of a plan are its parts before and after one place. Assumes nothing.
use Prim.Native.Nat.{ℕ, ◌≤◌}
use mathlib.Core.Path.{◌≡◌, sym}
use mathlib.Core.List.{List}
use lib.ListN.{length, take, drop}
use Rattle.words.proofs.Scan.{drop_while-drop, take_while-fits, take_while-take}
use Rattle.text.specs.Files.{is_start_word, starts_of, given_facts}

module _ (plan : List ℕ) (s : ℕ) (ends : s ≡ length (starts_of plan)) where
  pub starts_fit : s ≤ length plan
  starts_fit = rw ends (take_while-fits is_start_word plan)

  pub starts_before : take s plan ≡ starts_of plan
  starts_before = rw ends (take_while-take is_start_word plan)

  pub facts_after : drop s plan ≡ given_facts plan
  facts_after = rw ends (sym (drop_while-drop is_start_word plan))
