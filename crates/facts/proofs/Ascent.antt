-- The list of facts ascends strictly. Assumes nothing.
use mathlib.Core.Bool.{Bool, true, false, cond}
use mathlib.Core.List.{List, [], ◌∷◌, ◌++◌}
use Prim.Native.Nat.{ℕ, zero, suc, ◌+◌, ◌*◌, ◌^◌, ◌≤◌, ◌<◌}
use native.Mathlib.Nat.{le_refl, le_trans}
use native.Mathlib.Omega.{arith}
use lib.Dec.{eqb}
use Rattle.words.specs.Lists.{Each, each_none, each_more, Pairs, pairs-none, pairs-more}
use Rattle.words.specs.Scan.{concat_below}
use Rattle.words.specs.Fields.{unknown, holds, fact_moment}
use Rattle.job.specs.Parts.{head_word, fluents, last_moment}
use Rattle.job.specs.Code.WellFormed.{WellFormed}
use Rattle.job.proofs.WellFormed.{well_formed}
use Rattle.history.specs.Values.{value_at}
use Rattle.facts.specs.Facts.{fact_of, facts_at, facts_upto, facts_of, FactsAscend}
use Rattle.words.proofs.Choices.{cond-all}
use Rattle.words.proofs.Lists.{each_map}
use Rattle.words.proofs.Wide.{moments_apart}

-- the words ascend strictly, and lie from low to below high
data Climbs : ℕ → List ℕ → ℕ → Type 0 where
  done : {low high : ℕ} → low ≤ high → Climbs low [] high
  next : {low w high : ℕ} {ws : List ℕ} → low ≤ w → Climbs (suc w) ws high → Climbs low (w ∷ ws) high

from_lower : {low low' high : ℕ} {ws : List ℕ} → low' ≤ low → Climbs low ws high → Climbs low' ws high
from_lower l (done h) = done (le_trans l h)
from_lower l (next h c) = next (le_trans l h) c

to_higher : {low high high' : ℕ} {ws : List ℕ} → high ≤ high' → Climbs low ws high → Climbs low ws high'
to_higher l (done h) = done (le_trans h l)
to_higher l (next h c) = next h (to_higher l c)

climbs_append : {low mid high : ℕ} {xs ys : List ℕ} → Climbs low xs mid → Climbs mid ys high → Climbs low (xs ++ ys) high
climbs_append (done h) d = from_lower h d
climbs_append (next h c) d = next h (climbs_append c d)

climbs_gather : (bound : ℕ → ℕ) (g : ℕ → List ℕ) (n : ℕ) → ((i : ℕ) → i < n → Climbs (bound i) (g i) (bound (suc i))) → Climbs (bound 0) (concat_below g n) (bound n)
unfolding concat_below
climbs_gather bound g zero h = done (le_refl (bound 0))
climbs_gather bound g (suc n) h = climbs_append (climbs_gather bound g n (λ i l. h i (omega arith))) (h n (omega arith))

climbs_above : {low high : ℕ} {ws : List ℕ} → Climbs low ws high → Each (λ w. low ≤ w) ws
climbs_above (done h) = each_none
climbs_above (next h c) = each_more h (each_map (λ w l. omega arith) (climbs_above c))

climbs_ascends : {low high : ℕ} {ws : List ℕ} → Climbs low ws high → Pairs (λ w w'. w < w') ws
climbs_ascends (done h) = pairs-none
climbs_ascends (next h c) = pairs-more (climbs_above c) (climbs_ascends c)

-- the least word on moment t and fluent f
abbrev least : ℕ → ℕ → ℕ → ℕ
least head t f = 10 * 2 ^ 28 + fact_moment head t + f * 2

fact_climbs : (head t f value : ℕ) → Climbs (least head t f) (fact_of head t f value) (least head t (suc f))
fact_climbs head t f value = cases (eqb value unknown) (eqb value holds)
  where
    cases : (b c : Bool) → Climbs (least head t f) (cond b [] ((least head t f + cond c 0 1) ∷ [])) (least head t (suc f))
    cases true c = let h : least head t f ≤ least head t (suc f) = omega arith in done h
    cases false c =
        let p : cond c 0 1 ≤ 1 = cond-all (λ n. n ≤ 1) c (omega arith) (omega arith) in
        let low : least head t f ≤ least head t f + cond c 0 1 = omega arith in
        let high : suc (least head t f + cond c 0 1) ≤ least head t (suc f) = omega arith in
        next low (done high)

moment_climbs : {job : List ℕ} → WellFormed job → (starts : List ℕ) (t : ℕ) → Climbs (least (head_word job) t 0) (facts_at job starts t) (least (head_word job) (suc t) 0)
unfolding facts_at
moment_climbs {job} w starts t =
    let low : least (head_word job) t (fluents job) ≤ least (head_word job) (suc t) 0 = omega (arith, moments_apart (head_word job) t (fluents job) w.fluents-by_head) in
    to_higher low
    (climbs_gather (least (head_word job) t) (λ f. fact_of (head_word job) t f (value_at job starts t f)) (fluents job) (λ f l. fact_climbs (head_word job) t f (value_at job starts t f)))

pub facts_ascend : FactsAscend
unfolding facts_of facts_upto
facts_ascend job starts ok =
    climbs_ascends (climbs_gather (λ u. least (head_word job) u 0) (facts_at job starts) (last_moment job + 1) (λ u l. moment_climbs (well_formed job ok) starts u))
