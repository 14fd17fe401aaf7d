-- A job's words by their places: what word number j of a kind says, and the words after it. Assumes nothing.
use mathlib.Core.List.{List}
use mathlib.Core.Path.{◌≡◌, ap, ◌∙◌}
use Prim.Native.Nat.{ℕ, ◌+◌, ◌<◌}
use native.Mathlib.Nat.{add-zero}
use lib.ListN.{get_or, drop}
use lib.Seq.{get_or-drop, drop-drop}
use Rattle.words.specs.Scan.{take_while, drop_while}
use Rattle.words.specs.Fields.{of_kind, duration_of}
use Rattle.job.specs.Parts.{total, words_from, word_of_kind, actions, duration, laws_of, formula_word, member_words, condition_words}
use Rattle.job.specs.Code.Parts.{formula_count}
use Rattle.job.specs.Code.WellFormed.{Indexed, WellFormed}

module _ (k : ℕ) (job : List ℕ) (j at : ℕ) (from : words_from k job j ≡ drop at job) where
  pub word_place : word_of_kind k job j ≡ get_or job at 0
  word_place = ap (λ (ws : List ℕ). get_or ws 0 0) from ∙ rw (get_or-drop, add-zero)

  words_after : drop 1 (words_from k job j) ≡ drop (at + 1) job
  words_after = ap (λ (ws : List ℕ). drop 1 ws) from ∙ drop-drop 1 at job

-- of actions: how many there are, their durations and laws
module _ {job places : List ℕ} (p : Indexed job 3 places) (a : ℕ) (h : a < total 3 job) where
  pub duration-place : duration job a ≡ duration_of (get_or job (get_or places a 0) 0)
  unfolding duration
  duration-place = ap duration_of (word_place 3 job a (get_or places a 0) (p.words a h))

  pub laws_place : laws_of job a ≡ take_while (of_kind 4) (drop (get_or places a 0 + 1) job)
  unfolding laws_of
  laws_place = ap (take_while (of_kind 4)) (words_after 3 job a (get_or places a 0) (p.words a h))

pub action_counted : {job : List ℕ} → WellFormed job → {a : ℕ} → a < actions job → a < total 3 job
action_counted w h = rw w.counted h

-- of formulas: their words
pub formula_place : {job places : List ℕ} → Indexed job 5 places → (k : ℕ) → k < formula_count job → formula_word job k ≡ get_or job (get_or places k 0) 0
unfolding formula_word
formula_place {job} {places} p k h = word_place 5 job k (get_or places k 0) (p.words k h)

-- of task sets: their members and conditions
module _ (job : List ℕ) (p at : ℕ) (from : words_from 6 job p ≡ drop at job) where
  pub members_place : member_words job p ≡ take_while (of_kind 7) (drop (at + 1) job)
  unfolding member_words
  members_place = ap (take_while (of_kind 7)) (words_after 6 job p at from)

  pub conditions_place : condition_words job p ≡ take_while (of_kind 8) (drop_while (of_kind 7) (drop (at + 1) job))
  unfolding condition_words
  conditions_place = ap (λ (ws : List ℕ). take_while (of_kind 8) (drop_while (of_kind 7) ws)) (words_after 6 job p at from)
