-- A node that is a task set, whose rows are filled together. Assumes nothing.
use Prim.Native.Nat.{ℕ, ◌+◌, ◌*◌, ◌≤◌, ◌<◌}
use mathlib.Core.Path.{◌≡◌, sym, subst}
use mathlib.Core.Logic.Iff
use mathlib.Core.Logic.{◌↔◌, inl}
use mathlib.Core.List.{List}
use native.Mathlib.Omega.{arith}
use lib.ListN.{length, get_or}
use Rattle.bitset.specs.Code.Members.{In}
use Rattle.model.specs.Trajectory.{Trajectory}
use Rattle.model.specs.Procedure.{Procedure}
use Rattle.sets.specs.Code.Set.{member, SetRule}
use Rattle.sets.specs.Code.Rows.{SetReady, SetRows}
use Rattle.model.specs.Code.Table.{InTable, row_at}
use Rattle.sets.proofs.Stored.{rule_map}
use Rattle.model.specs.Forms.{Set, form_at}
use Rattle.model.proofs.Forms.{at-below}
use Rattle.reading.specs.Forms.{set_at}
use Rattle.reading.specs.Code.Forms.{NodeReadable}
use Rattle.reading.specs.Code.Table.{NodeReady, NodeRows}

module _ (P : Procedure) (T : Trajectory) (p : ℕ) (f : form_at P p ≡ Set) where
  -- its members have lower numbers
  pub members_lower : NodeReadable P T p → (i : ℕ) → i < length (P.members p) → get_or (P.members p) i 0 < p
  members_lower h = at-below (P.members p) (rw f at h.lower)

  pub set-ready : {started : ℕ} {t : List ℕ} → NodeReady P T started p t → SetReady (set_at P T p) p (length t)
  set-ready h = record { formed = h.formed.set f; lower = members_lower h.formed; room = h.room }

  pub set-node : {started : ℕ} {t u : List ℕ} → NodeReady P T started p t → SetRows (set_at P T p) p t u → NodeRows P T p t u
  set-node {t = t} {u = u} h r = record { rows = λ b l e. rw f (Iff.trans (r.rows b e l) (over b e l)); others = r.others }
    where
      same : (q c : ℕ) → q < p → c ≤ T.last → row_at u q c ≡ row_at t q c
      same q c k m = r.others (q * 64 + c) (inl (omega (arith, h.moments)))

      over : (b e : ℕ) → b ≤ T.last → SetRule (set_at P T p) (InTable t) b e ↔ SetRule (set_at P T p) (InTable u) b e
      over b e l = (
        rule_map (λ i c d k m x. subst (λ (y : ℕ). In y d) (sym (same (member (set_at P T p) i) c (members_lower h.formed i k) m)) x),
        rule_map (λ i c d k m x. subst (λ (y : ℕ). In y d) (same (member (set_at P T p) i) c (members_lower h.formed i k) m) x),
      )
