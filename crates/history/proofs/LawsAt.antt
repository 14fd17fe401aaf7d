-- The laws of an action by their place: the part of the job from the word after the action's own to where they end. Assumes nothing.
use mathlib.Core.List.{List}
use mathlib.Core.Path.{◌≡◌, ap, sym, ◌∙◌}
use Prim.Native.Nat.{ℕ, ◌+◌, ◌-◌, ◌≤◌, ◌<◌}
use native.Mathlib.Omega.{arith}
use lib.ListN.{length, get_or, take, drop}
use Rattle.words.specs.Fields.{of_kind}
use Rattle.words.specs.Scan.{take_while}
use Rattle.words.proofs.Scan.{part_from, run_inside, run_part}
use Rattle.job.specs.Parts.{actions, laws_of}
use Rattle.job.specs.Code.WellFormed.{WellFormed, Indexed}
use Rattle.job.proofs.ByPlace.{action_counted, laws_place}

module _ {job places : List ℕ} (formed : WellFormed job) (indexed : Indexed job 3 places) {a : ℕ} (h : a < actions job) where
  abbrev from : ℕ
  from = get_or places a 0 + 1

  pub laws_from : from ≤ length job
  laws_from = omega (arith, indexed.inside a (action_counted formed h))

  -- how many words of kind 4 lead what follows the action's own word is how many laws it has
  pub laws_counted : {n : ℕ} → n ≡ length (take_while (of_kind 4) (drop from job)) → n ≡ length (laws_of job a)
  laws_counted e = e ∙ ap length (sym (laws_place indexed a (action_counted formed h)))

  pub laws_fit : from + length (laws_of job a) ≤ length job
  laws_fit = run_inside (of_kind 4) job from _ (ap length (laws_place indexed a (action_counted formed h))) laws_from

  pub laws_part : take (from + length (laws_of job a) - from) (drop from job) ≡ laws_of job a
  laws_part =
      part_from job from (length (laws_of job a))
      ∙ run_part (of_kind 4) job from _ (ap length (laws_place indexed a (action_counted formed h)))
      ∙ sym (laws_place indexed a (action_counted formed h))
