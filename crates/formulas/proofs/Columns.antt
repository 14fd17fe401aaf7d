-- A table on the way: all columns before moment t, and of that one the first k entries. Assumes nothing.
use mathlib.Core.List.{List}
use mathlib.Core.Logic.{by_cases}
use mathlib.Core.Path.{◌≡◌}
use Prim.Native.Nat.{ℕ, ◌+◌, ◌*◌, ◌≤◌, ◌<◌}
use native.Mathlib.Decide.{dec_lt}
use native.Mathlib.Omega.{arith}
use lib.ListN.{length, set, replicate, length-set, length-replicate}
use lib.Seq.{get_or-set_other}
use Rattle.words.proofs.Entries.{entries_set, entries_more, entries_alike}
use Rattle.job.specs.Parts.{last_moment}
use Rattle.job.specs.Code.Parts.{formula_count}
use Rattle.formulas.specs.Values.{formula_at}
use Rattle.formulas.specs.Code.Table.{Small, ColumnAt, ColumnsBefore, FormulaTable}

pub record Filling (conj disj job : List ℕ) (fluent : ℕ → ℕ → ℕ) (t k : ℕ) (values : List ℕ) : Type 0 where
  pub size : length values ≡ 4096
  pub small : Small values
  pub here : ColumnAt conj disj job fluent t k values
  pub others : (u : ℕ) → u < t → ColumnAt conj disj job fluent u (formula_count job) values

module _ {conj disj job : List ℕ} {fluent : ℕ → ℕ → ℕ} where
  pub columns_none : ColumnsBefore conj disj job fluent 0 (replicate 4096 0)
  columns_none =
      record {
        size = length-replicate {A = ℕ} 4096 0;
        small = record { most = entries_alike (λ v. v ≤ 2) 4096 0 (omega arith) (omega arith) };
        column = λ u l. absurd (omega arith);
      }

  pub columns_all : {t : ℕ} {values : List ℕ} → ColumnsBefore conj disj job fluent t values → last_moment job < t → FormulaTable conj disj job fluent values
  columns_all h l = record { small = h.small; entry = λ k u m n. (h.column u (omega arith)).entry k m }

  module _ {t : ℕ} where
    -- the columns up to t, as far as that of t is filled
    pub filled_columns : {k : ℕ} {values : List ℕ} → Filling conj disj job fluent t k values → k ≤ formula_count job
        → (u : ℕ) → u ≤ t → ColumnAt conj disj job fluent u k values
    filled_columns h l u b =
        by_cases (dec_lt u t) (λ m. record { entry = λ x q. (h.others u m).entry x (omega arith) })
        (λ m. let same : u ≡ t = omega arith in rw same h.here)

    -- one entry more
    pub fill_entry : t < 64 → (k : ℕ) → k < 64 → (values : List ℕ) (v : ℕ) → v ≤ 2 → Filling conj disj job fluent t k values
        → v ≡ formula_at conj disj job fluent k t → Filling conj disj job fluent t (k + 1) (set values (k * 64 + t) v)
    fill_entry l k m values v most h e =
        let room : k * 64 + t < length values = omega (arith, h.size) in
        record {
          size = rw length-set h.size;
          small = record { most = entries_set (λ i x. x ≤ 2) values (k * 64 + t) v room most h.small.most };
          here =
              record {
                entry = entries_more (λ x. x * 64 + t) (λ x y. y ≡ formula_at conj disj job fluent x t) values k v room (λ x b q. omega arith) h.here.entry e;
              };
          others =
              λ u b.
              record {
                entry = λ x q. rw (get_or-set_other values (k * 64 + t) (x * 64 + u) v 0 (λ z. omega arith)) ((h.others u b).entry x q);
              };
        }
