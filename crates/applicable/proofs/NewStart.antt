-- Rows 6 to 10, 15 and 16 of a new start, one after the other, and the room that an accepted one has. Assumes nothing.
use mathlib.Core.Bool.{Bool, true, false}
use mathlib.Core.List.{List, [], ◌∷◌, ◌++◌}
use mathlib.Core.Path.{◌≡◌, refl, ap, sym, ◌∙◌}
use Prim.Native.Nat.{ℕ, ◌+◌, ◌*◌, ◌^◌, ◌<◌, ◌≤◌}
use native.Mathlib.Omega.{arith}
use lib.Dec.{leb, ltb}
use lib.ListN.{length, get_or, take, drop}
use Rattle.std.specs.Prelude.{⊤, Ok, Err}
use Rattle.words.specs.Fields.{start_word}
use Rattle.words.specs.Scan.{any}
use Rattle.words.specs.Lists.{Each, Pairs}
use Rattle.words.proofs.Lists.{each_of, each_at, small_at, pairs_of}
use Rattle.words.proofs.Insert.{insert-length}
use Rattle.answers.specs.declared.Refusal.{Refusal}
use Rattle.answers.specs.Rows.{refusal, passed, row, first_refusal, first_row}
use Rattle.job.specs.Parts.{head_word, actions, last_moment, duration, laws_of}
use Rattle.job.specs.Refusal.{job_refusal}
use Rattle.job.specs.Code.WellFormed.{WellFormed, Indexed}
use Rattle.answers.proofs.Rows.{or_none, or_refused, or_passed, or_assoc, ok-passed, err-refused}
use Rattle.history.specs.Code.Tables.{Ruled}
use Rattle.starts.specs.Rows.{unmet, unmet_at, starts_refusal}
use Rattle.starts.specs.Lawful.{Lawful}
use Rattle.starts.specs.Code.Given.{StartsFormed, Tabled, Recorded}
use Rattle.starts.proofs.Needs.{needs_read}
use Rattle.starts.proofs.StartsFormed.{starts_passed, right_word, words_ascend, few_words}
use Rattle.starts.proofs.Lawful.{lawful}
use Rattle.theory.specs.Answers.{plan_refusal}
use Rattle.theory.specs.declared.Plan.{Plan}
use Rattle.theory.proofs.Passing.{job_clear, plan_formed, actions-indexed}
use Rattle.moves.specs.Trials.{Trial, Start, new_start_rows, start_refusal}
use Rattle.moves.proofs.Passing.{Passing, lawful_few}
use Rattle.moves.proofs.Played.{move_passes}
use Rattle.applicable.specs.Code.Given.{FacingAll, Present, held_refusal, StartTested}
use Rattle.answers.specs.Code.Ruled.{ruled}

-- a plan that passes has lawful starts
plan_lawful : {job starts : List ℕ} → Each (λ s. s < 2 ^ 32) starts → (plan_refusal job starts).number ≡ 0 → Lawful job starts
unfolding plan_refusal
plan_lawful {job} {starts} small clear = (lawful job starts small).0 (or_none (job_refusal job) (starts_refusal job starts) clear).1

module _ {job starts : List ℕ} {u : ℕ} {plan : Plan} (given : Present job starts u plan) where
  pub present_formed : WellFormed job
  present_formed = plan_formed job starts given.passed.clear

  pub present_words : StartsFormed job starts
  unfolding plan_refusal
  present_words = starts_passed job starts (or_none (job_refusal job) (starts_refusal job starts) given.passed.clear).1

  pub present_order : Pairs (λ s s'. s < s') starts
  present_order = pairs_of starts (words_ascend present_words)

  pub present_few : Each (λ s. s < 2 ^ 32) starts → length starts ≤ 4096
  present_few small = few_words job starts (small_at small) (length starts) present_words.right

  present_indexed : Indexed job 3 plan.index.actions.position
  present_indexed = actions-indexed job (job_clear job starts given.passed.clear) given.passed.index

  pub present_tabled : Tabled job plan.durations plan.effects
  present_tabled = record { formed = present_formed; lasts = given.passed.durations; makes = given.passed.effects }

  pub present_facing : {durations effects : List ℕ} → Tabled job durations effects → {a : ℕ} → a < actions job → FacingAll job durations effects starts u a
  present_facing tables k = record {
    tables = tables;
    action = each_of starts (λ i l. (right_word present_words i l).action);
    past = given.past;
    present = given.present;
    new = k;
  }

  pub present_ruled : Ruled job plan.index.actions.position plan.ends
  present_ruled = record { formed = present_formed; indexed = present_indexed; laws = given.passed.laws }

  -- the needs of an action by the history
  pub present_unmet : {a : ℕ} → a < actions job → {laws : List ℕ} → laws ≡ laws_of job a
      → {r : Bool} → r ≡ any (unmet (head_word job) (λ f. get_or plan.history (u * 256 + f) 0)) laws → r ≡ unmet_at job starts u a
  present_unmet {a} k el er =
      let recorded : Recorded job plan.index.actions.position plan.ends plan.history starts =
      record {
        rules = present_ruled;
        words = present_words;
        last = u;
        past = each_at given.past;
        values = given.passed.history;
      } in
      er ∙ rw el (needs_read recorded a k u (omega arith))

  -- a start that is accepted is one more lawful start, of which there are 4,096 at most
  new_room : (a : ℕ) → Each (λ s. s < 2 ^ 32) starts → (start_refusal job (record { moment = u; starts = starts }) a).number ≡ 0 → length starts < 4096
  new_room a small e =
      let T : Trial = record { moment = u; starts = starts } in
      let passing : Passing job T = record { present = given.present; past = given.past; small = small; lawful = plan_lawful small given.passed.clear } in
      let more = move_passes job present_formed T (Start a) passing e in
      omega (arith, lawful_few more.small more.lawful, insert-length (start_word u a) starts)

  -- what a refused start gives, and one that is not refused
  pub tested_err : (a : ℕ) {r : Refusal} → r ≡ start_refusal job (record { moment = u; starts = starts }) a → (r.number ≡ 0 → ⊥) → StartTested job starts u a (Err r)
  tested_err a e h = (e, λ z. h (ap (λ (r : Refusal). r.number) e ∙ z))

  pub tested_ok : (a : ℕ) → Each (λ s. s < 2 ^ 32) starts → (start_refusal job (record { moment = u; starts = starts }) a).number ≡ 0 → StartTested job starts u a (Ok (tt {0}))
  tested_ok a small z = (z, new_room a small z)

-- rows, and then one more
last_row : (rs : List Refusal) (r : Refusal) → first_row (rs ++ (r ∷ [])) ≡ first_refusal (first_row rs) r
last_row [] r = refl
last_row (a ∷ []) r = refl
last_row (a ∷ b ∷ rs) r = ap (first_refusal a) (last_row (b ∷ rs) r) ∙ or_assoc a (first_row (b ∷ rs)) r

-- which row fits, by the tests
module _ (job starts : List ℕ) (u a : ℕ) where
  abbrev T : Trial
  T = record { moment = u; starts = starts }

  pub row-6 : leb (actions job) a ≡ true → refusal 6 0 ≡ start_refusal job (record { moment = u; starts = starts }) a
  unfolding start_refusal
  row-6 e = rw e

  module _ (n6 : leb (actions job) a ≡ false) where
    pub row-7 : ltb (last_moment job) (u + duration job a) ≡ true → refusal 7 0 ≡ start_refusal job (record { moment = u; starts = starts }) a
    unfolding start_refusal
    row-7 e = rw (n6, e)

    module _ (n7 : ltb (last_moment job) (u + duration job a) ≡ false) where
      -- rows 8, 9, 15 and 16, and then row 10
      abbrev held : Refusal
      held = held_refusal job starts u a

      then_held : start_refusal job (record { moment = u; starts = starts }) a ≡ first_refusal held (row (unmet_at job starts u a) 10 0)
      unfolding start_refusal
      then_held = rw (n6, n7) (last_row (take 4 (drop 2 (new_start_rows job T a))) (row (unmet_at job starts u a) 10 0))

      pub row_held : {e : Refusal} → Err e ≡ ruled (held_refusal job starts u a) (tt {0}) → (e ≡ start_refusal job (record { moment = u; starts = starts }) a) × (e.number ≡ 0 → ⊥)
      row_held h =
          let p = err-refused held (tt {0}) h in
          (p.1 ∙ or_refused held _ p.0 ∙ sym then_held, λ z. p.0 (ap (λ (r : Refusal). r.number) (sym p.1) ∙ z))

      module _ {x : ⊤} (ok : Ok x ≡ ruled (held_refusal job starts u a) (tt {0})) where
        rest : start_refusal job (record { moment = u; starts = starts }) a ≡ row (unmet_at job starts u a) 10 0
        rest = then_held ∙ sym (or_passed held _ (ok-passed held (tt {0}) ok).0)

        pub row-10 : unmet_at job starts u a ≡ true → refusal 10 0 ≡ start_refusal job (record { moment = u; starts = starts }) a
        row-10 e = sym (rest ∙ rw e)

        pub no_row : unmet_at job starts u a ≡ false → (start_refusal job (record { moment = u; starts = starts }) a).number ≡ 0
        no_row e = let clear : start_refusal job (record { moment = u; starts = starts }) a ≡ passed = rest ∙ rw e in ap (λ (r : Refusal). r.number) clear
