-- `sets::firsts::from_first` meets its contract: a placement in which `first` begins at the first moment is found, or the set that is searched still
-- has it. Assumes nothing.
use Prim.Native.Nat.{ℕ}
use mathlib.Core.Path.{◌≡◌, sym, subst}
use mathlib.Core.Logic.{◌⊎◌, inl, inr, ⊎_elim}
use native.Mathlib.Omega.{arith}
use Rattle.bitset.specs.Code.Members.{In}
use Rattle.narrowing.specs.Code.Open.{choice_at}
use Rattle.ending.specs.Code.Search.{SoughtPlacement}
use Rattle.searching.proofs.Growth.{grown_none, sought_as, finds_none}
use Rattle.sets.proofs.firsts.from_first.Goals as goal
use Rattle.sets.proofs.firsts.from_first.Goals.{After-placed-next}

-- a placement to e is found, or the set still has it
sought : (c : After-placed-next) (e : ℕ) (bs es : ℕ → ℕ) → let a = c.args in
    SoughtPlacement a.tables.now a.state e bs es → bs a.first ≡ a.state.from → In a.found.ends e ⊎ SoughtPlacement a.tables.now c.placed-next.result e bs es
sought c e bs es s q = let w = c.placed-next.ensures in
    ⊎_elim (λ k. inl (subst (λ (x : ℕ). In c.args.found.ends x) s.final k)) (λ k. inr (sought_as w.0 w.1 s k)) (w.3 bs es s.tables s.bounded s.fits q)

pub returns-then-next-state-eq0 : goal.returns-then-next-state-eq0
returns-then-next-state-eq0 c =
    let w = c.placed-next.ensures in
    let none : (choice_at c.placed-next.result.members c.placed-next.result.last).ends ≡ 0
    = subst (λ (x : ℕ). (choice_at c.placed-next.result.members x).ends ≡ 0) (sym w.1) (omega (arith, c.if-next-state-eq0.true)) in (
      grown_none,
      λ e bs es l s q. ⊎_elim (λ h. h)
          (finds_none c.placed-next.result c.args.found (omega (arith, w.1, c.requires.0.last)) none e bs es l)
          (sought (goal.at.returns-then-next-state-eq0 c).After-placed-next e bs es s q),
    )
