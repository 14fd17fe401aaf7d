-- Between functions: the nodes that are named as children, as two sets.
use Rattle.std.specs.Prelude.{ℕ, leb}
use Rattle.bitset.specs.Code.Members.{IsSetOf}
use Rattle.job.specs.declared.names.Names.{Names}

-- node v is named n v times: the sets have the nodes that are named, and those that are named more than once
pub record NamedTimes (n : ℕ → ℕ) (names : Names) : Type 0 where
  pub named : IsSetOf names.named (λ v. leb 1 (n v))
  pub again : IsSetOf names.again (λ v. leb 2 (n v))
