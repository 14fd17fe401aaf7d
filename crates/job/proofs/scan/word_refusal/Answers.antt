-- `job::scan::word_refusal` meets its contract: each arm's kind picks its entry of the rules, and the arm's call has that rule at the facts
-- of the words before. Assumes nothing.
use mathlib.Core.Bool.{true}
use mathlib.Core.List.{List}
use mathlib.Core.Path.{◌≡◌, refl, ap, sym, ◌∙◌}
use Prim.Native.Nat.{ℕ, ◌-◌}
use native.Mathlib.Omega.{arith}
use lib.ListN.{get_or}
use Rattle.words.specs.Fields.{kind, group_number}
use Rattle.words.specs.Scan.{any}
use Rattle.job.specs.Before.{before, since}
use Rattle.job.specs.Follow.{predecessor, may_follow}
use Rattle.job.specs.Refusal.{refusal_of}
use Rattle.job.specs.Code.Entries.{lists, entry_of, same_entry, has_entry}
use Rattle.job.proofs.Listing.{fluent_entry, pair_entry}
use Rattle.job.proofs.Refusal.{ruled, may, may_not}
use Rattle.job.proofs.scan.word_refusal.Goals as goal
use Rattle.job.proofs.scan.word_refusal.Goals.{Else-not-may_follow}
use Rattle.answers.specs.Code.Ruled.{if_any}

-- past the test of the word before, a word of kind k may follow it, and its refusal is its rule's
module _ (c : Else-not-may_follow) (k : ℕ) (h : c.kind_of-k.result ≡ k) where
  abbrev job : List ℕ
  job = c.args.job.now

  abbrev i : ℕ
  i = c.args.i

  kind-is : kind (get_or job i 0) ≡ k
  kind-is = sym c.kind_of-k.ensures.0 ∙ h

  follows : may_follow k (predecessor (before job i)) ≡ true
  follows = rw (← c.predecessor.ensures, ← h) (sym c.may_follow.ensures ∙ c.if-not-may_follow.false)

  passed : refusal_of job i ≡ ruled job i k
  passed = may job i k kind-is follows

  -- the set tells whether what the word lists is listed already
  listed : lists k ≡ true → any (same_entry (get_or job 0 0) (get_or job i 0)) (since (k - 1) (before job i))
      ≡ has_entry c.args.listed.now (entry_of (get_or job 0 0) (get_or job i 0))
  listed l =
      ap (λ (m : ℕ). any (same_entry (get_or job 0 0) (get_or job i 0)) (since (m - 1) (before job i))) (sym kind-is)
      ∙ sym (c.requires.2.entry (get_or job i 0) (rw kind-is l) (rw kind-is follows))

pub returns-then-not-may_follow : goal.returns-then-not-may_follow
returns-then-not-may_follow c =
    ap if_any
    (sym
    (may_not c.args.job.now c.args.i _ (sym c.kind_of-k.ensures.0)
    (rw (← c.predecessor.ensures) (sym c.may_follow.ensures ∙ c.if-not-may_follow.true))))

pub returns-in-1 : goal.returns-in-1
returns-in-1 c = rw (passed (goal.at.returns-in-1 c).Else-not-may_follow 1 c.in-1.is) c.head.ensures

pub returns-in-2 : goal.returns-in-2
returns-in-2 c = let k = c.in-2.is in rw (passed (goal.at.returns-in-2 c).Else-not-may_follow 2 k, fluent_entry _ _ _ (kind-is (goal.at.returns-in-2 c).Else-not-may_follow 2 k) (λ z. omega arith), listed (goal.at.returns-in-2 c).Else-not-may_follow 2 k refl, ← c.is_listed.ensures) c.known.ensures

pub returns-in-3 : goal.returns-in-3
returns-in-3 c = rw (passed (goal.at.returns-in-3 c).Else-not-may_follow 3 c.in-3.is, ← c.requires.1.actions) c.action.ensures

pub returns-in-4 : goal.returns-in-4
returns-in-4 c = let k = c.in-4.is in rw (passed (goal.at.returns-in-4 c).Else-not-may_follow 4 k, fluent_entry _ _ _ (kind-is (goal.at.returns-in-4 c).Else-not-may_follow 4 k) (λ z. omega arith), listed (goal.at.returns-in-4 c).Else-not-may_follow 4 k refl, ← c.is_listed-in-4.ensures) c.law.ensures

pub returns-in-5 : goal.returns-in-5
returns-in-5 c = rw (passed (goal.at.returns-in-5 c).Else-not-may_follow 5 c.in-5.is, ← c.requires.1.formulas) c.formula.ensures

pub returns-in-6 : goal.returns-in-6
returns-in-6 c = rw (passed (goal.at.returns-in-6 c).Else-not-may_follow 6 c.in-6.is, ← c.requires.1.actions, ← c.requires.1.formulas, ← c.requires.1.nodes) c.node.ensures

pub returns-in-7 : goal.returns-in-7
returns-in-7 c = rw (passed (goal.at.returns-in-7 c).Else-not-may_follow 7 c.in-7.is, ← c.requires.1.nodes, ← c.requires.1.members) c.member.ensures

pub returns-in-8 : goal.returns-in-8
returns-in-8 c = rw (passed (goal.at.returns-in-8 c).Else-not-may_follow 8 c.in-8.is, ← c.requires.1.formulas, ← c.requires.1.members, ← c.requires.1.conditions) c.condition.ensures

pub returns-in-12 : goal.returns-in-12
returns-in-12 c = rw (passed (goal.at.returns-in-12 c).Else-not-may_follow 12 c.in-12.is, ← c.requires.1.actions) c.shift_window.ensures

pub returns-in-13 : goal.returns-in-13
returns-in-13 c = rw (passed (goal.at.returns-in-13 c).Else-not-may_follow 13 c.in-13.is, ← (c.requires.1.groups (group_number (get_or c.args.job.now c.args.i 0)))) c.group.ensures

pub returns-in-14 : goal.returns-in-14
returns-in-14 c = let k = c.in-14.is in rw (passed (goal.at.returns-in-14 c).Else-not-may_follow 14 k, ← c.requires.1.actions, ← (c.requires.1.groups (group_number (get_or c.args.job.now c.args.i 0))), pair_entry (get_or c.args.job.now 0 0) _ _ (kind-is (goal.at.returns-in-14 c).Else-not-may_follow 14 k), listed (goal.at.returns-in-14 c).Else-not-may_follow 14 k refl, ← c.is_listed-in-14.ensures) c.group_member.ensures
