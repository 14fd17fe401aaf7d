-- Rows of which none fits give the refusal of number 0 at position 0. Assumes nothing.
use mathlib.Core.Bool.{Bool, true, false, cond, not}
use mathlib.Core.List.{List, [], ◌∷◌, ◌++◌}
use mathlib.Core.Path.{◌≡◌, refl, sym, ◌∙◌}
use Prim.Native.Nat.{ℕ, zero, suc, ◌-◌, ◌<◌}
use native.Mathlib.Omega.{arith}
use borrow.Author.Tests.{eqb-false}
use lib.Dec.{eqb, leb}
use lib.ListN.{length, get_or, take}
use Rattle.words.specs.Tests.{within}
use Rattle.words.specs.Fields.{actions_of}
use Rattle.answers.specs.declared.Refusal.{Refusal}
use Rattle.answers.specs.Rows.{refusal, passed, row, first_row, first_refusal, refusal_at, first_of}
use Rattle.answers.proofs.Rows.{or_none, or_passed, row-none}
use Rattle.job.specs.Refusal.{refusal_of, empty_set, name_refusal, job_refusal, end_refusal}
use Rattle.job.specs.Before.{before, count_of_kind}
use Rattle.job.specs.Parts.{last_moment}
use Rattle.starts.specs.Rows.{unmet_at}
use Rattle.moves.specs.Trials.{Trial, Move, Start, On, trial_refusal, new_start_rows, start_refusal, on_refusal, own_refusal, move_refusal}

abbrev Clear : Refusal → Type 0
Clear r = r.number ≡ 0 → r ≡ passed

next : (a b : Refusal) → Clear b → Clear (first_refusal a b)
next a b h z = let e = or_none a b z in sym (or_passed a b e.0) ∙ h e.1

of_row : (t : Bool) (n p : ℕ) → 0 < n → Clear (row t n p)
of_row t n p l z = rw (row-none t n p l z)

at : (p n : ℕ) → Clear (refusal_at p n)
at p n = cases (eqb n 0) refl
  where
    cases : (t : Bool) → eqb n 0 ≡ t → Clear (cond t passed (refusal n p))
    cases true e z = refl
    cases false e z = absurd (eqb-false n 0 e z)

first : (f : ℕ → ℕ) (n : ℕ) → Clear (first_of f n)
unfolding first_of
first f zero z = refl
first f (suc n) z = next (first_of f n) (refusal_at n (f n)) (at n (f n)) z

-- of some rows, where the last gives it
last : (rs : List Refusal) (r : Refusal) → Clear r → Clear (first_row (rs ++ (r ∷ [])))
last [] r h = h
last (a ∷ []) r h = next a r h
last (a ∷ b ∷ rs) r h = next a (first_row ((b ∷ rs) ++ (r ∷ []))) (last (b ∷ rs) r h)

job_end : (head len : ℕ) (p : List ℕ) → Clear (end_refusal head len p)
unfolding end_refusal
job_end head len p =
    last
    (row (not (eqb (count_of_kind 3 p) (actions_of head))) 3 len
    ∷ row (eqb (count_of_kind 6 p) 0) 5 0
    ∷ row (empty_set p) 5 (count_of_kind 6 p - 1)
    ∷ [])
    (first_of (name_refusal p) (count_of_kind 6 p - 1)) (first (name_refusal p) (count_of_kind 6 p - 1))

pub no_job : (job : List ℕ) → (job_refusal job).number ≡ 0 → job_refusal job ≡ passed
unfolding job_refusal
no_job job =
    last (row (not (within 1 2048 (length job))) 1 0 ∷ first_of (refusal_of job) (length job) ∷ [])
    (end_refusal (get_or job 0 0) (length job) (before job (length job))) (job_end (get_or job 0 0) (length job) (before job (length job)))

own : (job : List ℕ) (T : Trial) (m : Move) → Clear (own_refusal job T m)
unfolding start_refusal on_refusal
own job T (Start a) =
    last (take 6 (new_start_rows job T a)) (row (unmet_at job T.starts T.moment a) 10 0) (of_row (unmet_at job T.starts T.moment a) 10 0 (omega arith))
own job T On = of_row (leb (last_moment job) T.moment) 14 0 (omega arith)

pub no_move : (job : List ℕ) (T : Trial) (m : Move) → (move_refusal job T m).number ≡ 0 → move_refusal job T m ≡ passed
unfolding move_refusal
no_move job T m = last (job_refusal job ∷ trial_refusal job T ∷ []) (own_refusal job T m) (own job T m)
