-- Between functions: a table of values, one byte for each formula and moment. `fluent t f` is the value of fluent f at moment t.
use Rattle.std.specs.Prelude.{List, ◌≡◌, ℕ, ◌+◌, ◌*◌, ◌<◌, ◌≤◌, length, get_or}
use Rattle.job.specs.Parts.{fluents, last_moment}
use Rattle.job.specs.Code.Parts.{formula_count}
use Rattle.job.specs.Code.WellFormed.{WellFormed, Indexed}
use Rattle.formulas.specs.Values.{formula_at}

-- every entry is one of the three values
pub record Small (table : List ℕ) : Type 0 where
  pub most : (i : ℕ) → get_or table i 0 ≤ 2

-- the tables of 'and' and 'or'
pub record Connectives (conj disj : List ℕ) : Type 0 where
  pub conjunction : Small conj
  pub disjunction : Small disj

-- the fluents by a history
abbrev pub tabled : List ℕ → ℕ → ℕ → ℕ
tabled history t f = get_or history (t * 256 + f) 0

-- a history whose entries for the job are each one of the three values
pub record Valued (job history : List ℕ) : Type 0 where
  pub most : (t f : ℕ) → t ≤ last_moment job → f < fluents job → tabled history t f ≤ 2

-- formula k at moment t, by a table of values
abbrev pub tabulated : List ℕ → ℕ → ℕ → ℕ
tabulated values k t = get_or values (k * 64 + t) 0

-- what the value of a formula word at moment t is found from: the table of 'and', and the values so far
pub record FormReady (conj values : List ℕ) (t : ℕ) : Type 0 where
  pub conjunction : Small conj
  pub so_far : Small values
  pub moment : t < 64

-- what the value of 'formula x has held' at moment t is found from
pub record HeldReady (conj values : List ℕ) (x t : ℕ) : Type 0 where
  pub form : FormReady conj values t
  pub formula : x < 64

-- what the values of a job's formulas are found from: the positions of the formulas, how many they are, and a history
pub record Grounds (job places : List ℕ) (count : ℕ) (history : List ℕ) : Type 0 where
  pub well : WellFormed job
  pub indexed : Indexed job 5 places
  pub counted : count ≡ formula_count job
  pub valued : Valued job history

-- the entries of the first n formulas at moment t
pub record ColumnAt (conj disj job : List ℕ) (fluent : ℕ → ℕ → ℕ) (t n : ℕ) (values : List ℕ) : Type 0 where
  pub entry : (k : ℕ) → k < n → get_or values (k * 64 + t) 0 ≡ formula_at conj disj job fluent k t

-- all columns before moment t
pub record ColumnsBefore (conj disj job : List ℕ) (fluent : ℕ → ℕ → ℕ) (t : ℕ) (values : List ℕ) : Type 0 where
  pub size : length values ≡ 4096
  pub small : Small values
  pub column : (u : ℕ) → u < t → ColumnAt conj disj job fluent u (formula_count job) values

-- a column that can be filled: that of moment t, after those before it
pub record ColumnReady (conj disj job places : List ℕ) (count : ℕ) (history : List ℕ) (t : ℕ) (values : List ℕ) : Type 0 where
  pub connectives : Connectives conj disj
  pub grounds : Grounds job places count history
  pub moment : t ≤ last_moment job
  pub earlier : ColumnsBefore conj disj job (tabled history) t values

-- entry k * 64 + t has the value of formula k at moment t
pub record FormulaTable (conj disj job : List ℕ) (fluent : ℕ → ℕ → ℕ) (values : List ℕ) : Type 0 where
  pub small : Small values
  pub entry : (k t : ℕ) → k < formula_count job → t ≤ last_moment job → get_or values (k * 64 + t) 0 ≡ formula_at conj disj job fluent k t
