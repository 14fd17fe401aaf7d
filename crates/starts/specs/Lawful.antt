-- Starts that no row fits, by the words themselves and not by their positions: one field a row, and two for row 6. `lawful`
-- (proofs/Lawful.antt) is the law against the rows.
use Rattle.std.specs.Prelude.{Bool, true, false, List, ◌↔◌, ◌≡◌, ℕ, suc, ◌^◌, ◌≤◌, ◌<◌, length, get_or, take}
use Rattle.words.specs.Fields.{start_moment, start_action}
use Rattle.job.specs.Parts.{last_moment, limit_of, in_group}
use Rattle.history.specs.Actions.{finish}
use Rattle.history.specs.Held.{Lasting, Ascending}
use Rattle.words.specs.Lists.{Each, Pairs}
use Rattle.starts.specs.Rows.{is_start, restarts, clashing, may_start, in_use, exceeds, unmet_at, starts_refusal}

-- at each moment at most the limit of a group is in use
abbrev pub Within : List ℕ → (ℕ → Bool) → ℕ → List ℕ → Type 0
Within job group limit starts = (t : ℕ) → in_use job group starts t ≤ limit

pub record Lawful (job starts : List ℕ) : Type 0 where
  pub words : Each (λ s. is_start job s ≡ true) starts
  pub order : Pairs (λ s s'. s < s') starts
  pub ends : Each (λ s. finish job s ≤ last_moment job) starts
  pub apart : Pairs (λ s s'. restarts job s s' ≡ false) starts
  pub agree : Pairs (λ s s'. clashing job s s' ≡ false) starts
  pub inside : Each (λ s. may_start job (start_moment s) (start_action s) ≡ true) starts
  pub within : (g : ℕ) → g < 8 → Within job (in_group job g) (limit_of job g) starts
  pub met : Each (λ s. unmet_at job starts (start_moment s) (start_action s) ≡ false) starts

-- of 32-bit words (larger numbers could ascend while their moments do not), no row fits exactly where they are lawful starts
abbrev pub LawfulExactly : Type 0
LawfulExactly = (job starts : List ℕ) → Each (λ s. s < 2 ^ 32) starts → (starts_refusal job starts).number ≡ 0 ↔ Lawful job starts

-- of any group: where the moments ascend, no start exceeds the limit with those before it exactly where at each moment at most the limit is in
-- use. `within-exactly` (proofs/GroupLimits.antt) shows it.
abbrev pub WithinExactly : Type 0
WithinExactly =
    (job : List ℕ) (group : ℕ → Bool) (limit : ℕ) (starts : List ℕ) → Ascending starts
    → ((i : ℕ) → i < length starts → exceeds job group limit (take (suc i) starts) (get_or starts i 0) ≡ false) ↔ Within job group limit starts

-- where each start lasts, a limit of 0 forbids the group; `zero_forbids` there shows it
abbrev pub ZeroForbids : Type 0
ZeroForbids =
    (job : List ℕ) (group : ℕ → Bool) (starts : List ℕ) → Lasting job starts
    → Within job group 0 starts ↔ Each (λ s. group (start_action s) ≡ false) starts
