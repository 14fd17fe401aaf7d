-- `trial::Trial::judged` meets its contract: the trial is outside its bounds, or the rows on its starts decide. Assumes nothing.
use mathlib.Core.Bool.{false}
use mathlib.Core.Path.{◌≡◌, refl, sym, ◌∙◌}
use mathlib.Core.List.{List}
use Prim.Native.Nat.{ℕ, ◌≤◌}
use native.Mathlib.Omega.{arith}
use lib.ListN.{length}
use lib.Seq.{length-take-le}
use Rattle.std.specs.Prelude.{Result, Ok, Err, MatchResult, IsErrAnd}
use Rattle.std.proofs.Common.{rules}
use Rattle.std.proofs.lemmas.Result.{err_from_is_err_and}
use Rattle.answers.specs.declared.Refusal.{Refusal}
use Rattle.answers.specs.Rows.{refusal}
use Rattle.theory.specs.declared.Plan.{Plan}
use Rattle.theory.specs.Code.Judged.{PassedUpto, JudgedUpto}
use Rattle.trial.specs.declared.Trial.{Trial}
use Rattle.trial.specs.Code.Given.{TrialJudged}
use Rattle.job.proofs.WellFormed.{well_formed}
use Rattle.moves.specs.Trials.{outside}
use Rattle.trial.specs.Stepped.{trial_of}
use Rattle.trial.proofs.Judging.{inside_few, row-14, judgeable, starts_passed, starts_refused, judged_present, judged_sized}
use Rattle.trial.proofs.Trial.judged.Goals as goal

pub is_outside-requires : goal.is_outside-requires
is_outside-requires c = (well_formed _ c.requires.good).some

pub returns-then-is_outside : goal.returns-then-is_outside
returns-then-is_outside c =
    let is = row-14 c.args.job.now c.args.self.now (sym c.is_outside.ensures.bounds ∙ c.if-is_outside.true) in
    rw (c.refuse.ensures, ← is) (refl, λ z. omega arith)

pub slice_bounds-judge_starts-end : goal.slice_bounds-judge_starts-end
slice_bounds-judge_starts-end c =
    let in_bounds : outside c.args.job.now (trial_of c.args.self.now) ≡ false = sym c.is_outside.ensures.bounds ∙ c.if-is_outside.false in
    let few : let t = c.args.self.now in t.length ≤ length t.starts = omega (arith, inside_few c.args.job.now c.args.self.now c.is_outside.ensures.size in_bounds, c.is_outside.ensures.size) in
    sym (length-take-le _ _ few)

pub judge_starts-requires : goal.judge_starts-requires
judge_starts-requires c =
    let in_bounds : outside c.args.job.now (trial_of c.args.self.now) ≡ false = sym c.is_outside.ensures.bounds ∙ c.if-is_outside.false in
    judgeable c.args.job.now c.args.self.now c.requires.good c.is_outside.ensures.size in_bounds c.requires.index

-- what `map_err` gives, by what it was given
mapped : {job : List ℕ} {t : Trial} {rows : Refusal} {S : List ℕ} {k : ℕ} {post : Refusal → Refusal → Type 0} (x y : Result Plan Refusal)
    → MatchResult x (λ p. y ≡ Ok p) (λ e. IsErrAnd y (post e)) → JudgedUpto rows job S k x
    → ((p : Plan) → (rows.number ≡ 0) × PassedUpto job S k p → TrialJudged job t (Ok p))
    → ((e r : Refusal) → post e r → (e ≡ rows) × (rows.number ≡ 0 → ⊥) → TrialJudged job t (Err r)) → TrialJudged job t y
mapped (Ok p) y e h ok err = rw e (ok p h)
mapped (Err f) y e h ok err = let g = err_from_is_err_and y e in rw g.1 (err f g.0 g.2 h)

pub returns : goal.returns
returns c =
    let job = c.args.job.now in
    let trial = c.args.self.now in
    let size = c.is_outside.ensures.size in
    let in_bounds : outside job (trial_of trial) ≡ false = sym c.is_outside.ensures.bounds ∙ c.if-is_outside.false in
    mapped _ _ c.map_err.ensures.cases c.judge_starts.ensures
    (λ p h. (
      starts_passed job trial c.requires.good size in_bounds h.0,
      (judged_present job trial c.requires.good size in_bounds h.1, judged_sized job trial c.requires.good size in_bounds),
    ))
    (λ e r post h.
    let is : r ≡ refusal e.number 0 = search (rules, post) in
    starts_refused job trial c.requires.good size in_bounds is h.0 (λ z. h.1 (rw h.0 at z)))
