-- The test of a case, by computing: the row that fits, which triples have a reading, the root's only reading, and the packed
-- number. Assumes nothing.
use Prim.Native.Nat.{ℕ, suc, ◌*◌, ◌-◌}
use mathlib.Core.Bool.{Bool, true, false, ◌&&◌, ◌||◌, not}
use mathlib.Core.List.{List, [], ◌∷◌}
use lib.Dec.{eqb, leb}
use lib.ListN.{length}
use Rattle.answers.specs.declared.Refusal.{Refusal}
use Rattle.answers.specs.declared.Answer.TheVariants.{Accepted, Refused}
use Rattle.answers.specs.Packed.{packed}
use Rattle.job.specs.Parts.{last_moment, node_count}
use Rattle.theory.specs.Answers.{check_refusal}
use Rattle.theory.specs.Trajectory.{plan_trajectory}
use Rattle.job.specs.Procedure.{procedure_of}
use Rattle.model.specs.declared.Triple.{Triple}
use Rattle.reading.specs.Reading.{whole}
use Rattle.words.proofs.AllBelow.{all_below}
use Rattle.cases.proofs.Decision.{reads as readsb}
use Rattle.cases.proofs.Only.{on_each}
use Rattle.cases.specs.Cases.{Expected, refuses, unread, reads, Case, triple}

-- node p of the case reads from b to e
unfoldable pub decided : List ℕ → List ℕ → ℕ → ℕ → ℕ → Bool
decided job starts p b e = readsb (node_count job * 64) (procedure_of job) (plan_trajectory job starts) p b e

abbrev pub same : Triple → Triple → Bool
same s r = eqb s.node r.node && (eqb s.begin r.begin && eqb s.end r.end)

unfoldable pub listed : Triple → List Triple → Bool
listed s [] = false
listed s (r ∷ rs) = same s r || listed s rs

unfoldable pub distinct : List Triple → Bool
distinct [] = true
distinct (r ∷ rs) = not (listed r rs) && distinct rs

-- each listed triple is one of the job, and is decided so
unfoldable pub sound : List ℕ → List ℕ → List Triple → Bool
sound job starts [] = true
sound job starts (s ∷ rs) =
    ((leb (suc s.node) (node_count job) && leb s.begin s.end) && (leb s.end (last_moment job) && decided job starts s.node s.begin s.end)) && sound job starts rs

-- each triple that is decided so is listed
unfoldable pub complete : List ℕ → List ℕ → List Triple → Bool
complete job starts rs =
    all_below (λ p. all_below (λ b. all_below (λ e. not (decided job starts p b e) || listed (triple p b e) rs) (suc (last_moment job))) (suc (last_moment job))) (node_count job)

unfoldable pub exactly : List ℕ → List ℕ → List Triple → Bool
exactly job starts rs = distinct rs && (sound job starts rs && complete job starts rs)

unfoldable pub fits : Refusal → ℕ → ℕ → Bool
fits r n p = eqb r.number n && eqb r.position p

-- the root reads from 0 to n
unfoldable pub rooted : List ℕ → List ℕ → Bool
rooted job starts = decided job starts (node_count job - 1) 0 (last_moment job)

-- two lists have the same words
unfoldable pub same_words : List ℕ → List ℕ → Bool
same_words [] [] = true
same_words [] (w ∷ ws) = false
same_words (v ∷ vs) [] = false
same_words (v ∷ vs) (w ∷ ws) = eqb v w && same_words vs ws

-- each reading of the root has these words
unfoldable pub only : List ℕ → List ℕ → List ℕ → Bool
only job starts ws =
    on_each (node_count job * 64) (procedure_of job) (plan_trajectory job starts) whole (node_count job - 1) 0 (last_moment job) (λ us. same_words us ws)

-- the answer is that of the rows and the readings, and n its packed number
unfoldable pub answers : List ℕ → List ℕ → Refusal → Expected → ℕ → Bool
answers job starts r (refuses m p) n = (fits r m p && not (eqb m 0)) && eqb n (packed (Refused m p 0))
answers job starts r (unread rs) n =
    (eqb r.number 0 && (not (rooted job starts) && exactly job starts rs)) && eqb n (packed (Refused 13 0 (length rs)))
answers job starts r (reads ws rs) n =
    (eqb r.number 0 && (rooted job starts && exactly job starts rs)) && (only job starts ws && eqb n (packed (Accepted (length ws) (length rs))))

unfoldable pub passed : Case → Bool
passed c = answers c.job c.starts (check_refusal c.job c.starts c.facts) c.expected c.number

unfoldable pub all_passed : List Case → Bool
all_passed [] = true
all_passed (c ∷ cs) = passed c && all_passed cs
