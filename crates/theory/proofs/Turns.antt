-- The comparison of the facts, one moment after the other: those of a moment are the given ones, or differ there. Assumes nothing.
use mathlib.Core.List.{List, [], ◌++◌}
use mathlib.Core.Path.{◌≡◌, sym, ◌∙◌, ap}
use Prim.Native.Nat.{ℕ, ◌+◌, ◌-◌, ◌≤◌, ◌<◌}
use native.Mathlib.Omega.{arith}
use Rattle.std.specs.Prelude.{⊤, Result}
use lib.ListN.{length, take, drop, get_or, length-drop}
use lib.Seq.{length-sets}
use Rattle.words.specs.Fields.{fluents_of}
use Rattle.job.specs.Parts.{last_moment}
use Rattle.job.specs.Code.WellFormed.{WellFormed}
use Rattle.history.specs.Code.Tables.{History}
use Rattle.facts.specs.Facts.{facts_of}
use Rattle.facts.specs.Code.Written.{row_facts, rows_facts, Filled}
use Rattle.facts.proofs.Lists.{row-most, rows_none, rows_first, rows_facts_lem}
use Rattle.answers.specs.declared.Refusal.{Refusal}
use Rattle.theory.specs.Answers.{facts_refusal}
use Rattle.theory.specs.Code.Compared.{part_refusal}
use Rattle.theory.proofs.Laws.{part_refuses, part_passes, part_inside, filled_front}
use Rattle.answers.specs.Code.Ruled.{ruled}

-- by a history, the facts of the moments from t to `last`
abbrev pub rest : List ℕ → List ℕ → ℕ → ℕ → List ℕ
rest job history last t = rows_facts history (get_or job 0 0) (fluents_of (get_or job 0 0)) t (last + 1 - t)

pub record Turn (job history given : List ℕ) (last at t : ℕ) (row : List ℕ) : Type 0 where
  pub size : length row ≡ 256
  pub inside : at ≤ length given
  pub left : facts_refusal given (rest job history last 0) 0 ≡ facts_refusal (drop at given) (rest job history last t) at

-- those of the first of these moments, then the others; all of them, by the history of a plan
split : (job history : List ℕ) (last t : ℕ) → t ≤ last → rest job history last t ≡ row_facts history (get_or job 0 0) t (fluents_of (get_or job 0 0)) ++ rest job history last (t + 1)
split job history last t l =
    let e : last + 1 - t ≡ 1 + (last + 1 - (t + 1)) = omega arith in
    rw e (rows_first history (get_or job 0 0) (fluents_of (get_or job 0 0)) t (last + 1 - (t + 1)))

all : {job starts history : List ℕ} (last : ℕ) → last ≡ last_moment job → History job starts history → rest job history last 0 ≡ facts_of job starts
unfolding facts_of
all last e h = let z : last + 1 - 0 ≡ last + 1 = omega arith in rw (z, e) (rows_facts_lem h)

none_left : (job history : List ℕ) (last t : ℕ) → last < t → rest job history last t ≡ []
none_left job history last t e = let z : last + 1 - t ≡ 0 = omega arith in rw z (rows_none history (get_or job 0 0) (fluents_of (get_or job 0 0)) t)

module _ {job history given row : List ℕ} {last at t : ℕ} (turn : Turn job history given last at t row) where
  -- the facts of the moment
  abbrev facts : List ℕ
  facts = row_facts history (get_or job 0 0) t (fluents_of (get_or job 0 0))

  module _ {n : ℕ} {made : List ℕ} (formed : WellFormed job) (filled : Filled row facts n made) where
    few : length facts ≤ length row
    few = omega (arith, row-most history (get_or job 0 0) t (fluents_of (get_or job 0 0)), formed.few_fluents, turn.size)

    pub row-size : length made ≡ 256
    row-size = ap length filled.held ∙ length-sets row 0 facts ∙ turn.size

    pub fits : n ≤ length made
    fits = omega (arith, filled.count, few, row-size, turn.size)

    -- what is compared is they, which stand in front of the row
    pub compared : {r : Result ⊤ Refusal} → r ≡ ruled (part_refusal (drop at given) (take n made) at) (tt {0}) → r ≡ ruled (part_refusal (drop at given) facts at) (tt {0})
    compared e = rw (filled_front filled few).0 at e

    module _ (l : t ≤ last) where
      pub refused : {starts : List ℕ} → last ≡ last_moment job → History job starts history → ((part_refusal (drop at given) facts at).number ≡ 0 → ⊥)
          → part_refusal (drop at given) facts at ≡ facts_refusal given (facts_of job starts) 0
      refused e h n =
          part_refuses given facts (rest job history last (t + 1)) at n
          ∙ ap (λ (l : List ℕ). facts_refusal (drop at given) l at) (sym (split job history last t l))
          ∙ sym turn.left
          ∙ ap (λ (l : List ℕ). facts_refusal given l 0) (all last e h)

      pub goes_on : (part_refusal (drop at given) facts at).number ≡ 0 → Turn job history given last (at + n) (t + 1) made
      goes_on z = record {
        size = row-size;
        inside = omega (arith, filled.count, part_inside (drop at given) facts at z, length-drop at given, turn.inside);
        left =
            turn.left
            ∙ ap (λ (l : List ℕ). facts_refusal (drop at given) l at) (split job history last t l)
            ∙ part_passes given facts (rest job history last (t + 1)) at z
            ∙ ap (λ (n : ℕ). facts_refusal (drop (at + n) given) (rest job history last (t + 1)) (at + n)) (sym filled.count);
      }

  -- after the last moment row 11 is left to what stands after its facts
  pub ended : {starts : List ℕ} → last < t → last ≡ last_moment job → History job starts history
      → facts_refusal (drop at given) [] at ≡ facts_refusal given (facts_of job starts) 0
  ended e is h =
      ap (λ (fs : List ℕ). facts_refusal (drop at given) fs at) (sym (none_left job history last t e))
      ∙ sym turn.left ∙ ap (λ (fs : List ℕ). facts_refusal given fs 0) (all last is h)
