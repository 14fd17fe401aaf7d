-- Between functions: what the scan's state is of the words p before: a line for each field.
use Rattle.std.specs.Prelude.{List, ◌≡◌, ℕ}
use Rattle.job.specs.Before.{count_of_kind, since, latest, named}
use Rattle.words.specs.Scan.{any}
use Rattle.bitset.specs.Code.Members.{IsSetOf}
use Rattle.job.specs.Parts.{is_group}
use Rattle.job.specs.Code.Names.{NamedTimes}
use Rattle.job.specs.declared.State.{State}

pub record Tied (p : List ℕ) (s : State) : Type 0 where
  pub actions : s.actions ≡ count_of_kind 3 p
  pub formulas : s.formulas ≡ count_of_kind 5 p
  pub nodes : s.nodes ≡ count_of_kind 6 p
  pub members : s.members ≡ count_of_kind 7 (since 6 p)
  pub conditions : s.conditions ≡ count_of_kind 8 (since 6 p)
  pub node : s.node ≡ latest 6 p
  pub groups : IsSetOf s.groups (λ g. any (is_group g) p)
  pub names : NamedTimes (λ v. named v p) s.names
