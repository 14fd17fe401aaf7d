-- The conditions on members whose begins are fixed, and the masks of the members' ends as the conditions narrow them. Assumes nothing.
use Prim.Native.Nat.{ℕ, ◌+◌, ◌*◌, ◌<◌}
use mathlib.Core.Path.{◌≡◌, sym, ◌∙◌}
use mathlib.Core.Logic.{◌↔◌}
use mathlib.Core.List.{List}
use native.Mathlib.Omega.{arith}
use lib.ListN.{length, get_or, set}
use borrow.Author.Count.{below_more}
use Rattle.words.proofs.Entries.{entry_set}
use Rattle.bitset.specs.Code.Members.{In}
use Rattle.words.specs.Fields.{form, condition_i, condition_j}
use Rattle.model.specs.Forms.{ConditionForm, BeginAfterBegin, BeginAfterEnd, HoldsBefore, HoldsAfter, HoldsBetween, ReservedCondition, condition_number}
use Rattle.covering.specs.Code.Cover.{entry_at}
use Rattle.keeping.specs.declared.Tables.{Tables}
use Rattle.ending.specs.Code.Ends.{asked, partner, MetByMask, Narrowed}

pub partner-less : (f : ConditionForm) {i j m : ℕ} → i < m → j < m → partner f i j < m
partner-less BeginAfterBegin g h = h
partner-less BeginAfterEnd g h = h
partner-less HoldsBefore g h = g
partner-less HoldsAfter g h = g
partner-less HoldsBetween g h = h
partner-less ReservedCondition g h = h

-- a mask of the ends that condition c allows, in the words of the condition
pub met_mask : (cs allow begins : List ℕ) (c : ℕ) {f i j p m e : ℕ} → f ≡ form (get_or cs c 0) → i ≡ condition_i (get_or cs c 0) → j ≡ condition_j (get_or cs c 0)
    → p ≡ partner (condition_number f) i j → In m e ↔ In (get_or allow (c * 64 + entry_at begins p) 0) (asked (condition_number f) (entry_at begins i) e)
    → In m e ↔ MetByMask cs allow (entry_at begins) c e
met_mask cs allow begins c qf qi qj qp h = rw (qp, qf, qi, qj) at h

-- what condition d asks of member i, ended at e
abbrev MaskAsks : Tables → List ℕ → ℕ → ℕ → ℕ → Type 0
MaskAsks t begins i e d = condition_i (get_or t.conditions.now d 0) ≡ i → MetByMask t.conditions.now t.allow (entry_at begins) d e

module _ {t : Tables} {begins old new : List ℕ} {c : ℕ} (i m v : ℕ) (on : i ≡ condition_i (get_or t.conditions.now c 0)) (long : length new ≡ 4) (named : i < 4)
    (small : (i e : ℕ) → In (entry_at old i) e → e < 64) (is : (e : ℕ) → e < 64 → In m e ↔ MetByMask t.conditions.now t.allow (entry_at begins) c e)
    (both : (e : ℕ) → In v e ↔ (In (entry_at new i) e × In m e)) where
  pub narrow_more : Narrowed t begins old c new → Narrowed t begins old (c + 1) (set new i v)
  narrow_more h = record {
    mask = λ j e. entry_set (λ w. In w e ↔ (In (entry_at old j) e × ((d : ℕ) → d < c + 1 → MaskAsks t begins j e d))) new i v (omega arith)
        (λ q. rw q (here e)) (other j e);
  }
    where
      -- the member that the condition is on
      here : (e : ℕ) → In v e ↔ (In (entry_at old i) e × ((d : ℕ) → d < c + 1 → MaskAsks t begins i e d))
      here e = (
        λ u.
            let p = (both e).0 u in
            let o = (h.mask i e).0 p.0 in
            (o.0, below_more (MaskAsks t begins i e) c o.1 (λ z. (is e (small i e o.0)).0 p.1)),
        λ o. (both e).1 ((h.mask i e).1 (o.0, λ d l. o.1 d (omega arith)), (is e (small i e o.0)).1 (o.1 c (omega arith) (sym on))),
      )

      other : (j e : ℕ) → (j ≡ i → ⊥) → In (entry_at new j) e ↔ (In (entry_at old j) e × ((d : ℕ) → d < c + 1 → MaskAsks t begins j e d))
      other j e q = (
        λ u. let o = (h.mask j e).0 u in (o.0, below_more (MaskAsks t begins j e) c o.1 (λ z. absurd (q (sym (on ∙ z))))),
        λ o. (h.mask j e).1 (o.0, λ d l. o.1 d (omega arith)),
      )
