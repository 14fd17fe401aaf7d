-- What stores leave in a state or a table: of words taken from the last to the first, the first that passes prevails. Assumes nothing.
use mathlib.Core.Bool.{Bool, true, false, cond, ◌&&◌, ◌||◌}
use mathlib.Core.List.{List, [], ◌∷◌, ◌++◌}
use mathlib.Core.Logic.{by_cases}
use mathlib.Core.Path.{◌≡◌, refl, sym, ap, ◌∙◌}
use Prim.Native.Nat.{ℕ, ◌+◌, ◌*◌, ◌≤◌, ◌<◌}
use Rattle.std.specs.Prelude.{Option, Some, None}
use native.Mathlib.Decide.{dec_lt}
use native.Mathlib.Omega.{arith}
use borrow.Author.Count.{below_more}
use borrow.Author.Tests.{eqb-true, eqb-false}
use lib.Dec.{eqb}
use lib.ListN.{length, get_or, set, replicate, length-set, length-replicate, get_or-replicate, get_or-append, get_or-eq_default}
use lib.Seq.{get_or-set_same, get_or-set_other, get_or-append_seam}
use Rattle.words.specs.Fields.{unknown}
use Rattle.words.specs.Scan.{any, find_or}
use Rattle.words.proofs.Entries.{entries_more}
use Rattle.history.specs.Code.Stores.{Overlaid, Reads, RowStored}

-- what a list gives, by its first part and the rest
find_or-append : (test : ℕ → Bool) (gives : ℕ → ℕ) (other : ℕ) (vs ws : List ℕ)
    → find_or test gives other (vs ++ ws) ≡ find_or test gives (find_or test gives other ws) vs
unfolding find_or
find_or-append test gives other [] ws = refl
find_or-append test gives other (v ∷ vs) ws = rw (find_or-append test gives other vs ws)

-- the last word of a list whose words are below a bound, and those before it
pub before_last : {m w : ℕ} {all : List ℕ} (ws : List ℕ) → all ≡ ws ++ (w ∷ []) → 0 < m → ((k : ℕ) → get_or all k 0 < m) → (w < m) × ((k : ℕ) → get_or ws k 0 < m)
before_last {m} {w} {all} ws e p below = (rw (e, get_or-append_seam ws w [] 0) at (below (length ws)), fits)
  where
    fits : (k : ℕ) → get_or ws k 0 < m
    fits k = by_cases (dec_lt k (length ws)) (λ l. rw (e, get_or-append ws (w ∷ []) 0 k l) at (below k)) (λ l. rw (get_or-eq_default ws 0 {n = k} (omega arith)) p)

module _ {n : ℕ} {test : ℕ → ℕ → Bool} {gives : ℕ → ℕ → ℕ} {old : List ℕ} where
  -- no word
  pub overlaid_none : (ws : List ℕ) → length ws ≡ 0 → Overlaid n test gives old ws old
  unfolding find_or
  overlaid_none [] e = record { size = refl; value = λ f l. refl }
  overlaid_none (w ∷ ws) e = absurd (omega arith)

  -- the words before the last, after it
  pub overlaid_before : {all ws mid new : List ℕ} {w : ℕ} → all ≡ ws ++ (w ∷ []) → Overlaid n test gives old (w ∷ []) mid → Overlaid n test gives mid ws new
      → Overlaid n test gives old all new
  unfolding find_or
  overlaid_before {ws = ws} {w = w} e m h = record {
    size = h.size ∙ m.size;
    value = λ f l. h.value f l ∙ rw (m.value f l, e) (sym (find_or-append (test f) (gives f) (get_or old f 0) ws (w ∷ [])));
  }

  -- one word, by what is read from it
  pub overlaid_read : {w f v : ℕ} → f < length old → Reads test gives w (Some (f, v)) → Overlaid n test gives old (w ∷ []) (set old f v)
  unfolding find_or
  overlaid_read {w} {f} {v} room r = record { size = length-set old f v; value = λ g l. rw ((r g).0, (r g).1) (value g (eqb f g) refl) }
    where
      value : (g : ℕ) (b : Bool) → eqb f g ≡ b → get_or (set old f v) g 0 ≡ cond b v (get_or old g 0)
      value g true q = rw (← eqb-true f g q) (get_or-set_same old f v 0 room)
      value g false q = get_or-set_other old f g v 0 (λ z. eqb-false f g q (sym z))

  pub overlaid_unread : {w : ℕ} → Reads test gives w None → Overlaid n test gives old (w ∷ []) old
  unfolding find_or
  overlaid_unread r = record { size = refl; value = λ f l. rw (r f) }

-- a word that gives a value to the one fluent that it names, if it says so
pub reads_one : (says : ℕ → Bool) (fluent gives : ℕ → ℕ) (w : ℕ) {r : Option (ℕ × ℕ)} → r ≡ cond (says w) (Some (fluent w, gives w)) None
    → Reads (λ f v. says v && eqb (fluent v) f) (λ f. gives) w r
reads_one says fluent gives w {r} e = rw e (cases (says w) refl)
  where
    cases : (b : Bool) → says w ≡ b → Reads (λ f v. says v && eqb (fluent v) f) (λ f. gives) w (cond b (Some (fluent w, gives w)) None)
    cases true q = λ f. (rw q, refl)
    cases false q = λ f. rw q

-- words over a row of open values
pub overlaid_open : {n : ℕ} {test : ℕ → ℕ → Bool} {gives : ℕ → ℕ → ℕ} {ws new : List ℕ} → Overlaid n test gives (replicate n unknown) ws new
    → (f : ℕ) → f < n → get_or new f 0 ≡ find_or (test f) (gives f) unknown ws
overlaid_open {n} {test} {gives} {ws} o f l =
    o.value f l ∙ ap (λ (v : ℕ). find_or (test f) (gives f) v ws) (get_or-replicate n f unknown 0 l)

-- one word, whose test is on itself and then on the fluent
module _ (n : ℕ) (says : ℕ → Bool) (further : ℕ → ℕ → Bool) (gives : ℕ → ℕ → ℕ) (w : ℕ) {old : List ℕ} where
  pub overlaid_hit : {new : List ℕ} → says w ≡ true → length new ≡ length old → ((f : ℕ) → f < n → get_or new f 0 ≡ cond (further f w) (gives f w) (get_or old f 0))
      → Overlaid n (λ f v. says v && further f v) gives old (w ∷ []) new
  unfolding find_or
  overlaid_hit e s h = record { size = s; value = λ f l. rw e (h f l) }

  pub overlaid_skip : says w ≡ false → Overlaid n (λ f v. says v && further f v) gives old (w ∷ []) old
  unfolding find_or
  overlaid_skip e = record { size = refl; value = λ f l. rw e }

-- 'some word passes' as a value
pub any-gives : (test : ℕ → Bool) (v other : ℕ) (ws : List ℕ) → find_or test (λ w. v) other ws ≡ cond (any test ws) v other
unfolding find_or
any-gives test v other [] = refl
any-gives test v other (w ∷ ws) = cases (test w) (any-gives test v other ws)
  where
    cases : (b : Bool) → find_or test (λ w. v) other ws ≡ cond (any test ws) v other → cond b v (find_or test (λ w. v) other ws) ≡ cond (b || any test ws) v other
    cases true e = refl
    cases false e = e

module _ {row : List ℕ} {a : ℕ} {old : List ℕ} where
  -- Before the first store the table is as it was, with none of the row's entries at their places.
  pub row-none : RowStored row a 0 old old
  row-none = record { size = refl; here = λ f l. absurd (omega arith); earlier = λ i l. refl }

  -- A table that has the first n entries of the row has one more once entry n is stored at its place, which lies within the table.
  pub row_more : {n : ℕ} (cur : List ℕ) → a * 256 + n < length cur → RowStored row a n old cur
      → RowStored row a (n + 1) old (set cur (a * 256 + n) (get_or row n 0))
  row_more {n} cur r h =
      record {
        size = length-set cur (a * 256 + n) (get_or row n 0) ∙ h.size;
        here = entries_more (λ f. a * 256 + f) (λ f x. x ≡ get_or row f 0) cur n (get_or row n 0) r (λ f l q. omega arith) h.here refl;
        earlier = λ i l. rw (get_or-set_other cur (a * 256 + n) i (get_or row n 0) 0 (λ q. omega arith)) (h.earlier i l);
      }

-- a table of rows of 256 on the way: the first n entries of each row before row a
pub record Rows (value : ℕ → ℕ → ℕ) (n a : ℕ) (table : List ℕ) : Type 0 where
  pub size : length table ≡ 16384
  pub entry : (b f : ℕ) → b < a → f < n → get_or table (b * 256 + f) 0 ≡ value b f

module _ {value : ℕ → ℕ → ℕ} {n : ℕ} where
  pub rows_none : {v : ℕ} → Rows value n 0 (replicate 16384 v)
  rows_none {v} = record { size = length-replicate {A = ℕ} 16384 v; entry = λ b f l m. absurd (omega arith) }

  -- one row more
  pub rows_more : {a : ℕ} {row table new : List ℕ} → n ≤ 256 → Rows value n a table → RowStored row a 256 table new
      → ((f : ℕ) → f < n → get_or row f 0 ≡ value a f) → Rows value n (a + 1) new
  rows_more {a} {row} {table} {new} few all stored this =
      record {
        size = stored.size ∙ all.size;
        entry =
            λ b f l m.
            below_more (λ (k : ℕ). get_or new (k * 256 + f) 0 ≡ value k f) a
            (λ k h. stored.earlier (k * 256 + f) (omega arith) ∙ all.entry k f h m)
            (stored.here f (omega arith) ∙ this f m)
            b l;
      }
