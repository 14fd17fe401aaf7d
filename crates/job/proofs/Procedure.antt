-- The children of a node, by its word and, of a task set, its members. Assumes nothing.
use mathlib.Core.List.{List, [], ◌∷◌, map}
use mathlib.Core.Logic.{by_cases}
use mathlib.Core.Path.{◌≡◌, refl, ap}
use Prim.Native.Nat.{ℕ, zero, suc, ◌<◌}
use native.Mathlib.Decide.{ℕ_discrete}
use native.Mathlib.Omega.{arith}
use borrow.Author.Tests.{eq-eqb}
use lib.ListN.{length, length-map, get_or-map}
use Rattle.words.specs.Fields.{form, member_node}
use Rattle.words.specs.Scan.{count}
use Rattle.model.specs.Procedure.{Procedure}
use Rattle.model.specs.Forms.{form_number, named_by_form}
use Rattle.model.specs.Code.Forms.{children_as, children, Below}
use Rattle.model.proofs.Forms.{below_at}
use Rattle.job.specs.Children.{node_children}
use Rattle.job.specs.Parts.{node_count, node_word, member_words}
use Rattle.job.specs.Procedure.{procedure_of}
use Rattle.job.specs.Code.WellFormed.{WellFormed}

module _ (P : Procedure) (p : ℕ) where
  pub set-children : form (P.node p) ≡ 8 → children P p ≡ P.members p
  set-children e = ap (λ (n : ℕ). children_as P (form_number n) p) e

  own : (n : ℕ) → (n ≡ 8 → ⊥) → children_as P (form_number n) p ≡ named_by_form (form_number n) (P.node p)
  own zero h = refl
  own (suc zero) h = refl
  own (suc (suc zero)) h = refl
  own (suc (suc (suc zero))) h = refl
  own (suc (suc (suc (suc zero)))) h = refl
  own (suc (suc (suc (suc (suc zero))))) h = refl
  own (suc (suc (suc (suc (suc (suc zero)))))) h = refl
  own (suc (suc (suc (suc (suc (suc (suc zero))))))) h = refl
  own (suc (suc (suc (suc (suc (suc (suc (suc zero)))))))) h = absurd (h refl)
  own (suc (suc (suc (suc (suc (suc (suc (suc (suc k))))))))) h = refl

  pub own_children : (form (P.node p) ≡ 8 → ⊥) → children P p ≡ node_children (P.node p)
  own_children h = own (form (P.node p)) h

-- a list whose elements are each below n
below_each : {n : ℕ} (xs : List ℕ) → ((q : ℕ) → 0 < count q xs → q < n) → Below n xs
unfolding count
below_each [] h = tt
below_each (x ∷ xs) h = (h x (rw (eq-eqb x x refl) (omega arith)), below_each xs (λ q l. h q (omega arith)))

module _ (job : List ℕ) where
  pub members_count : (p : ℕ) → length ((procedure_of job).members p) ≡ length (member_words job p)
  unfolding procedure_of
  members_count p = length-map (member_words job p) member_node

  -- the children of a node, the members of its task set or those that its word names, are lower
  pub children-below : WellFormed job → (p : ℕ) → p < node_count job → Below p (children (procedure_of job) p)
  unfolding procedure_of
  children-below formed p h = by_cases (ℕ_discrete (form (node_word job p)) 8) members own
    where
      members : form (node_word job p) ≡ 8 → Below p (children (procedure_of job) p)
      members e =
          let q = length-map (member_words job p) member_node in
          rw (set-children (procedure_of job) p e)
          (below_at (map member_node (member_words job p)) (λ i l. rw (get_or-map member_node (member_words job p) i 0) ((formed.set p h e).lower i (omega arith))))

      own : (form (node_word job p) ≡ 8 → ⊥) → Below p (children (procedure_of job) p)
      own n = rw (own_children (procedure_of job) p n) (below_each _ (formed.node p h).lower)
