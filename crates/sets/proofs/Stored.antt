-- The rows of a set, stored one after the other. Assumes nothing.
use Prim.Native.Nat.{ℕ, ◌+◌, ◌*◌, ◌≤◌, ◌<◌}
use mathlib.Core.Path.{◌≡◌, refl, sym, ◌∙◌, subst}
use mathlib.Core.Bool.{◌&&◌}
use mathlib.Core.Logic.{◌↔◌, ◌⊎◌, ⊎_elim}
use mathlib.Core.List.{List, [], ◌∷◌, map}
use native.Mathlib.Omega.{arith}
use borrow.Author.Count.{below_more}
use lib.Dec.{leb, ltb}
use lib.ListN.{length, get_or, set, replicate, length-map, length-set, get_or-replicate}
use lib.Seq.{get_or-set_same, get_or-set_other}
use Rattle.bitset.specs.Code.Members.{In, IsSetOf}
use Rattle.words.specs.Fields.{member_node}
use Rattle.sets.specs.Set.{TaskSet, member_count}
use Rattle.sets.specs.Code.Set.{member, SetRule, Formed}
use Rattle.sets.specs.Code.Rows.{task_set_of, SetRows, Placed}
use Rattle.ending.specs.Code.Search.{Masked, SearchReady, Grown}
use Rattle.keeping.specs.declared.Tables.{Tables}
use Rattle.narrowing.specs.Code.Tables.{BoundsHave, InTables}
use Rattle.sets.specs.Code.Tables.{Unpruned, UnprunedTables, TablesReady, TablesOf}
use Rattle.ending.specs.declared.Found.{Found}
use Rattle.bitset.proofs.In.{in_zero, in_from, empty_entry}
use Rattle.model.specs.Code.Table.{InTable}

-- the rule asks R of the members' rows alone
pub rule_map : {s : TaskSet} {R S : ℕ → ℕ → ℕ → Type 0} {b e : ℕ} → ((i c d : ℕ) → i < member_count s → c ≤ s.last → R (member s i) c d → S (member s i) c d)
    → SetRule s R b e → SetRule s S b e
rule_map f r = record {
  begins = r.begins;
  ends = r.ends;
  reads = λ i l. let o = r.placing.inside i l in let u = r.placing.within in f i _ _ l (omega arith) (r.reads i l);
  placing = r.placing;
}

-- the rows of p before row b are right
pub record RowsTo (s : TaskSet) (p : ℕ) (old new : List ℕ) (b : ℕ) : Type 0 where
  pub long : length new ≡ length old
  pub rows : (c : ℕ) → c < b → (e : ℕ) → InTable new p c e ↔ SetRule s (InTable old) c e
  pub others : (i : ℕ) → (i < p * 64) ⊎ (p * 64 + s.last < i) → get_or new i 0 ≡ get_or old i 0

pub no_rows_yet : {s : TaskSet} {p : ℕ} {old : List ℕ} → RowsTo s p old old 0
no_rows_yet = record { long = refl; rows = λ c l. absurd (omega arith); others = λ i l. refl }

pub rows_more : {s : TaskSet} {p : ℕ} {old new : List ℕ} (b r : ℕ) → RowsTo s p old new b → p * 64 + 64 ≤ length new → b ≤ s.last → s.last < 64
    → ((e : ℕ) → In r e ↔ SetRule s (InTable old) b e) → RowsTo s p old (set new (p * 64 + b) r) (b + 1)
rows_more {s} {p} {old} {new} b r h room l small is = record {
  long = simp length-set h.long;
  rows = below_more (λ c. (e : ℕ) → InTable (set new (p * 64 + b) r) p c e ↔ SetRule s (InTable old) c e) b
      (λ c g e. rw (get_or-set_other new (p * 64 + b) (p * 64 + c) r 0 (omega arith)) (h.rows c g e))
      (λ e. rw (get_or-set_same new (p * 64 + b) r 0 (omega arith)) (is e));
  others = λ i g. rw (get_or-set_other new (p * 64 + b) i r 0 (⊎_elim (λ z. omega arith) (λ z. omega arith) g)) (h.others i g);
}

pub rows_done : {s : TaskSet} {p : ℕ} {old new : List ℕ} {b : ℕ} → s.last < b → RowsTo s p old new b → SetRows s p old new
rows_done l h = record { rows = λ c e g. h.rows c (omega arith) e; others = h.others }

-- ---- what the search of a row finds

pub ready_from : {t : Tables} {a b z : ℕ} → a ≤ b → b ≤ z → SearchReady t a z → SearchReady t b z
ready_from l g h = record {
  some = h.some;
  named = h.named;
  forward = g;
  moments = h.moments;
  onward = λ i x e k m. h.onward i x e k (omega arith);
}

pub tables_from : {t : Tables} {a b : ℕ} {bs es : ℕ → ℕ} → a ≤ b → InTables t a bs es → InTables t b bs es
tables_from l h = record { ends = h.ends; goes = h.goes; later = λ i x k m. h.later i x k (omega arith) }

-- what a row has to do with the rule: each end of `goal` to which the set reads is found, and the set reads to what is found
pub record RowFound (s : TaskSet) (R : ℕ → ℕ → ℕ → Type 0) (b z goal : ℕ) (r : Found) : Type 0 where
  pub finds : (e : ℕ) → e ≤ z → In goal e → SetRule s R b e → In r.ends e
  pub reads : (e : ℕ) → In r.ends e → SetRule s R b e

pub row-found : {s : TaskSet} {R : ℕ → ℕ → ℕ → Type 0} {a z b : ℕ} {t : Tables} (f r : Found) (goal : ℕ) → TablesOf s R a z t → a ≤ b → f.ends ≡ 0 → f.upto ≡ z
    → Grown t b f r → ((e : ℕ) (bs es : ℕ → ℕ) → Masked t b e bs es → InTables t b bs es → BoundsHave t.count t.bounds bs es → e ≤ z → In goal e → In r.ends e)
    → RowFound s R b z goal r
row-found {s} {R} {b = b} f r goal t from none last g all = record {
  finds = λ e w m h.
      let p : Placed s R b e h.begins h.ends = record { reads = h.reads; placing = h.placing } in
      all e h.begins h.ends (t.masked b e h.begins h.ends from w p) (tables_from from (t.kept b e h.begins h.ends from w p)) (t.bounded b e h.begins h.ends from w p) w m;
  reads = λ e u. ⊎_elim
      (λ v. in_zero none v)
      (λ v. let p = t.reads b e v.bs v.es from (omega (arith, last, g.upto, g.within (λ d v. in_zero none v) e u)) v.masked in record { begins = v.bs; ends = v.es; reads = p.reads; placing = p.placing })
      (g.reads e u);
}

-- the tables of a set's members and conditions, before and after they are filled
pub unpruned_of : (ms vs table : List ℕ) {cs : List ℕ} {n : ℕ} {t : Tables} → UnprunedTables cs (length ms) t → Formed (task_set_of ms cs vs n)
    → ((i : ℕ) → i < length (map member_node ms) → get_or (map member_node ms) i 0 * 64 + 64 ≤ length table)
    → TablesReady (task_set_of ms t.conditions.now vs n) table t
unpruned_of ms vs table {n = n} {t} u formed rows = subst (λ (k : List ℕ). TablesReady (task_set_of ms k vs n) table t) (sym u.conditions) (record {
  formed = formed;
  rows = rows;
  unpruned = record { conditions = u.conditions; count = u.count ∙ sym (length-map ms member_node); ends = u.ends; goes = u.goes; bounds = u.bounds };
})

pub filled_of : (ms vs table : List ℕ) {cs : List ℕ} {n a z count : ℕ} {t u : Tables} → UnprunedTables cs count t → TablesOf (task_set_of ms t.conditions.now vs n) (InTable table) a z u
    → TablesOf (task_set_of ms cs vs n) (InTable table) a z u
filled_of ms vs table {n = n} {a} {z} {u = u} h f = subst (λ (k : List ℕ). TablesOf (task_set_of ms k vs n) (InTable table) a z u) h.conditions f

-- an array of one word, every entry of which has all moments
pub every-unpruned : (v : ℕ) → IsSetOf v (λ k. leb 0 k && ltb k 64) → Unpruned (replicate 1024 v)
every-unpruned v h p e l m = subst (λ (x : ℕ). In x e) (sym (get_or-replicate 1024 p v 0 l)) ((in_from h e).1 (omega arith, m))

-- no begins yet
pub no_begins : (i : ℕ) → get_or (0 ∷ 0 ∷ 0 ∷ 0 ∷ []) i 0 < 64
no_begins i = omega (arith, empty_entry 4 i)
