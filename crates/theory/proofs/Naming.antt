-- The words of a job name a node as often as the nodes have it as a child, in sum. Assumes nothing.
use mathlib.Core.Bool.{true}
use mathlib.Core.List.{List, [], ◌∷◌, map}
use mathlib.Core.Logic.{◌⊎◌, inl, inr, by_cases}
use mathlib.Core.Path.{◌≡◌, refl, ap, sym, ◌∙◌}
use Prim.Native.Nat.{ℕ, zero, suc, ◌+◌, ◌<◌}
use native.Mathlib.Decide.{ℕ_discrete}
use native.Mathlib.Omega.{arith}
use borrow.Author.Tests.{eqb-true, ne_eqb}
use lib.Dec.{eqb}
use lib.ListN.{length, get_or}
use Rattle.words.specs.Fields.{of_kind, kind, form, is_set, member_node}
use Rattle.words.specs.Scan.{take_while, from_nth, count}
use Rattle.std.proofs.lemmas.List.Sums.{take_while-cons}
use Rattle.words.proofs.Choices.{both_true}
use Rattle.bitset.specs.Code.Members.{sum_below}
use Rattle.bitset.proofs.Sums.{sum-cong, sum-front}
use Rattle.model.specs.Code.Forms.{children}
use Rattle.job.specs.Children.{node_children, word_children}
use Rattle.job.specs.Before.{before, count_of_kind, named}
use Rattle.job.specs.Refusal.{job_refusal}
use Rattle.job.specs.Parts.{node_count, node_word, member_words}
use Rattle.job.specs.Procedure.{procedure_of}
use Rattle.job.proofs.Before.{before-suc}
use Rattle.job.proofs.WordPositions.{count-cons}
use Rattle.job.proofs.Follow.{member-after}
use Rattle.job.proofs.Parts.{follows, head}
use Rattle.model.proofs.Forms.{same_children}
use Rattle.job.proofs.Procedure.{set-children, own_children}
use Rattle.job.proofs.WellFormed.{well_formed}

-- how often node p of a list of words has node v as a child
abbrev child_times : List ℕ → ℕ → ℕ → ℕ
child_times ws v p = count v (children (procedure_of ws) p)

-- how often a node is named, with the first word apart
named-cons : (v w : ℕ) (ws : List ℕ) (i : ℕ) → named v (before (w ∷ ws) (suc i)) ≡ count v (word_children w) + named v (before ws i)
unfolding named before
named-cons v w ws zero = omega arith
named-cons v w ws (suc i) = omega (arith, named-cons v w ws i)

-- how often the members that lead a list of words name a node
abbrev leads : ℕ → List ℕ → ℕ
leads v ws = count v (map member_node (take_while (of_kind 7) ws))

-- each member follows a task set or a member
abbrev Led : List ℕ → Type 0
Led ws = (i : ℕ) → suc i < length ws → kind (get_or ws (suc i) 0) ≡ 7 → (is_set (get_or ws i 0) ≡ true) ⊎ (kind (get_or ws i 0) ≡ 7)

-- no member leads words whose first is none
leads_none : (v : ℕ) (ws : List ℕ) → (0 < length ws → kind (get_or ws 0 0) ≡ 7 → ⊥) → leads v ws ≡ 0
unfolding count
leads_none v [] h = refl
leads_none v (w ∷ ws) h = rw (ne_eqb (kind w) 7 (h (omega arith)))

module _ (v w : ℕ) (ws : List ℕ) where
  -- no member leads what follows a word that is neither a task set nor a member
  none_next : Led (w ∷ ws) → (is_set w ≡ true → ⊥) → (kind w ≡ 7 → ⊥) → leads v ws ≡ 0
  none_next led a b = leads_none v ws (λ l z. cases (led 0 (omega arith) z))
    where
      cases : (is_set w ≡ true) ⊎ (kind w ≡ 7) → ⊥
      cases (inl e) = a e
      cases (inr e) = b e

  -- what a word of each kind in front makes of the two numbers
  module _ (node : kind w ≡ 6) where
    from_first : from_nth (of_kind 6) 0 (w ∷ ws) ≡ w ∷ ws
    unfolding from_nth
    from_first = rw node

    word_first : (procedure_of (w ∷ ws)).node 0 ≡ w
    unfolding procedure_of node_word
    word_first = rw from_first

    members_first : (procedure_of (w ∷ ws)).members 0 ≡ map member_node (take_while (of_kind 7) ws)
    unfolding procedure_of member_words
    members_first = rw from_first

    not_set : (form w ≡ 8 → ⊥) → is_set w ≡ true → ⊥
    not_set h e = h (eqb-true (form w) 8 (both_true (eqb (kind w) 6) (eqb (form w) 8) e).1)

    node_first : Led (w ∷ ws) → child_times (w ∷ ws) v 0 ≡ count v (word_children w) + leads v ws
    unfolding count
    node_first led = by_cases (ℕ_discrete (form w) 8) set other
      where
        set : form w ≡ 8 → child_times (w ∷ ws) v 0 ≡ count v (word_children w) + leads v ws
        set f = ap (count v) (set-children (procedure_of (w ∷ ws)) 0 (ap form word_first ∙ f) ∙ members_first) ∙ rw (node, f) (omega arith)

        other : (form w ≡ 8 → ⊥) → child_times (w ∷ ws) v 0 ≡ count v (word_children w) + leads v ws
        other n =
            let mine = ap (count v) (own_children (procedure_of (w ∷ ws)) 0 (λ z. n (sym (ap form word_first) ∙ z)) ∙ ap node_children word_first) in
            let none = none_next led (not_set n) (λ z. omega arith) in
            mine ∙ rw (none, node) (omega arith)

    node_next : (p : ℕ) → child_times (w ∷ ws) v (suc p) ≡ child_times ws v p
    unfolding procedure_of node_word member_words from_nth
    node_next p = ap (count v) (same_children (procedure_of ws) (procedure_of (w ∷ ws)) p (suc p) (rw node) (λ f. rw node))

  module _ (no : kind w ≡ 6 → ⊥) where
    other_same : (p : ℕ) → child_times (w ∷ ws) v p ≡ child_times ws v p
    unfolding procedure_of node_word member_words from_nth
    other_same zero = ap (count v) (same_children (procedure_of ws) (procedure_of (w ∷ ws)) zero zero (rw (ne_eqb (kind w) 6 no)) (λ f. rw (ne_eqb (kind w) 6 no)))
    other_same (suc p) = ap (count v) (same_children (procedure_of ws) (procedure_of (w ∷ ws)) (suc p) (suc p) (rw (ne_eqb (kind w) 6 no)) (λ f. rw (ne_eqb (kind w) 6 no)))

  member-leads : kind w ≡ 7 → leads v (w ∷ ws) ≡ count v (word_children w) + leads v ws
  unfolding count
  member-leads h = rw (take_while-cons (of_kind 7) w ws, h) (omega arith)

  other_names : (kind w ≡ 6 → ⊥) → (kind w ≡ 7 → ⊥) → count v (word_children w) ≡ 0
  unfolding count
  other_names a b = rw (ne_eqb (kind w) 6 a, ne_eqb (kind w) 7 b)

  abbrev all : ℕ
  all = sum_below (child_times (w ∷ ws) v) (node_count (w ∷ ws))

  abbrev rest : ℕ
  rest = sum_below (child_times ws v) (node_count ws)

  -- a node in front is one term more of the sum, another word is none
  sum-node : Led (w ∷ ws) → kind w ≡ 6 → all ≡ count v (word_children w) + leads v ws + rest
  sum-node led h =
      let more : node_count (w ∷ ws) ≡ suc (node_count ws) = count-cons 6 w ws (length ws) ∙ rw h (omega arith) in
      ap (sum_below (child_times (w ∷ ws) v)) more ∙ sum-front (child_times (w ∷ ws) v) (node_count ws)
      ∙ rw (node_first h led, sum-cong {f = λ p. child_times (w ∷ ws) v (suc p)} {g = child_times ws v} (node_count ws) (λ p l. node_next h p))

  sum-other : (kind w ≡ 6 → ⊥) → all ≡ rest
  sum-other h =
      let same : node_count (w ∷ ws) ≡ node_count ws = count-cons 6 w ws (length ws) ∙ rw (ne_eqb (kind w) 6 h) (omega arith) in
      ap (sum_below (child_times (w ∷ ws) v)) same ∙ sum-cong (node_count ws) (λ p l. other_same h p)

  -- so one word more keeps the law
  step : Led (w ∷ ws) → named v (before ws (length ws)) ≡ leads v ws + rest → named v (before (w ∷ ws) (suc (length ws))) ≡ leads v (w ∷ ws) + all
  step led ih = cases (ℕ_discrete (kind w) 6) (ℕ_discrete (kind w) 7)
    where
      cases : Dec (kind w ≡ 6) → Dec (kind w ≡ 7) → named v (before (w ∷ ws) (suc (length ws))) ≡ leads v (w ∷ ws) + all
      cases (yes a) b =
          let none = leads_none v (w ∷ ws) (λ l z. omega arith) in
          named-cons v w ws (length ws) ∙ rw (ih, sum-node led a, none) (omega arith)
      cases (no a) (yes b) = named-cons v w ws (length ws) ∙ rw (ih, sum-other a, member-leads b) (omega arith)
      cases (no a) (no b) =
          let none = leads_none v (w ∷ ws) (λ l. b) in
          let next = none_next led (λ z. a (eqb-true (kind w) 6 (both_true (eqb (kind w) 6) (eqb (form w) 8) z).0)) b in
          named-cons v w ws (length ws) ∙ rw (ih, sum-other a, other_names a b, none, next) (omega arith)

-- the words name a node as often as the members that lead them and the nodes, each with its children
by_words : (v : ℕ) (ws : List ℕ) → Led ws → named v (before ws (length ws)) ≡ leads v ws + sum_below (child_times ws v) (node_count ws)
unfolding named count_of_kind before count sum_below
by_words v [] led = refl
by_words v (w ∷ ws) led = step v w ws led (by_words v ws (λ i l. led (suc i) (omega arith)))

module _ (job : List ℕ) (ok : (job_refusal job).number ≡ 0) where
  led : Led job
  led i l h = member-after (get_or job i 0) (before job i) (rw (before-suc job i) at (follows job ok 7 (suc i) l h))

  first : 0 < length job → kind (get_or job 0 0) ≡ 7 → ⊥
  first l h = let one = head job ok in omega arith

  -- a node is named as often as the nodes have it as a child
  pub named-by_nodes : (v : ℕ) → named v (before job (length job)) ≡ sum_below (λ p. count v (children (procedure_of job) p)) (node_count job)
  named-by_nodes v = by_words v job led ∙ rw (leads_none v job first) (omega arith)

  -- and each node but the last is the child of one node, once
  pub once_by_nodes : (v : ℕ) → suc v < node_count job → sum_below (λ p. count v (children (procedure_of job) p)) (node_count job) ≡ 1
  once_by_nodes v h = sym (named-by_nodes v) ∙ (well_formed job ok).once v h
