-- The steps of the writers, at a node p that is to be written from b to e: that each call may be made, and that the pieces make a reading.
-- Nothing here is about code. Assumes nothing.
use Prim.Native.Nat.{ℕ, zero, suc, ◌+◌, ◌-◌, ◌≤◌, ◌<◌}
use mathlib.Core.Path.{◌≡◌, refl, ap₂, ◌∙◌}
use mathlib.Core.Bool.{cond}
use mathlib.Core.Logic.{by_cases}
use mathlib.Core.List.{List, [], ◌∷◌, ◌++◌, append_assoc, append-nil}
use native.Mathlib.Decide.{ℕ_discrete}
use native.Mathlib.Numerals.{add-one}
use native.Mathlib.Omega.{arith}
use lib.Dec.{eqb}
use lib.ListN.{length, length-append}
use borrow.Author.Tests.{eq-eqb, ne_eqb}
use Rattle.model.specs.Code.Table.{InTable}
use Rattle.words.specs.Scan.{concat_below}
use Rattle.words.specs.Fields.{reading_word}
use Rattle.words.proofs.Concat.{concat-cong}
use Rattle.model.specs.Trajectory.{Trajectory}
use Rattle.model.specs.Procedure.{Procedure}
use Rattle.model.specs.Forms.{While, form_at, field_y}
use Rattle.model.specs.declared.Triple.{Triple}
use Rattle.reading.specs.Reading.{whole, passes, Reading, act, test, sequence, first, second, taken, otherwise, loop, done, pass, start_window, end_window, set}
use Rattle.reading.proofs.Step.{onward}
use Rattle.reading.specs.Code.Quiet.{at_once}
use Rattle.extract.specs.Code.Parts.{Prepared, Choosable, Chosen, part_of}
use Rattle.extract.specs.Code.Search.{CutAt, CutReady}
use Rattle.extract.proofs.Choice.{end_last, moment}
use Rattle.extract.specs.Code.Contract.{Full, Rest, Writable, ReadingWritten}
use Rattle.extract.proofs.Written.{written_none, written_then, written-map}

-- ---- readings taken apart

pub nonempty : {P : Procedure} {T : Trajectory} {p b e : ℕ} {ws : List ℕ} → Reading P T whole p b e ws → 1 ≤ length ws
nonempty (act f s d) = omega arith
nonempty (test f s d) = omega arith
nonempty (sequence f x y) = omega arith
nonempty (first f x) = omega arith
nonempty (second f y) = omega arith
nonempty (taken f t y) = omega arith
nonempty (otherwise f t y) = omega arith
nonempty (loop f r) = omega arith
nonempty (start_window f x y g h d) = omega arith
nonempty (end_window f x y g h q) = omega arith
nonempty (set f rs pl) = omega arith

never : {A : Type 0} → ◌≡◌ {A = ℕ} 0 1 → A
never z = absurd (omega arith)

-- the reading of a loop is its word and its passes: a node has one form
pub loop_of : {P : Procedure} {T : Trajectory} {p b e : ℕ} {ws : List ℕ} → form_at P p ≡ While → Reading P T whole p b e ws
    → (us : List ℕ) × Reading P T passes p b e us
loop_of g (act f s d) = never (cc)
loop_of g (test f s d) = never (cc)
loop_of g (sequence f x y) = never (cc)
loop_of g (first f x) = never (cc)
loop_of g (second f y) = never (cc)
loop_of g (taken f t y) = never (cc)
loop_of g (otherwise f t y) = never (cc)
loop_of g (loop f r) = (_, r)
loop_of g (start_window f x y l h d) = never (cc)
loop_of g (end_window f x y l h q) = never (cc)
loop_of g (set f rs pl) = never (cc)

pub no_pass : {P : Procedure} {T : Trajectory} {p b e : ℕ} {ws : List ℕ} → e ≤ b → Reading P T passes p b e ws → ws ≡ []
no_pass l (done t d) = refl
no_pass l (pass t h x r) = let g = onward r in absurd (omega arith)

pub first_pass : {P : Procedure} {T : Trajectory} {p b e : ℕ} {ws : List ℕ} → b < e → Reading P T passes p b e ws
    → (m : ℕ) × (us : List ℕ) × (vs : List ℕ) × (b < m) × Reading P T whole (field_y P p) b m us × Reading P T passes p m e vs
first_pass l (done t d) = absurd (omega arith)
first_pass l (pass t h x r) = (_, _, _, h, x, r)

pub holds_at : {P : Procedure} {T : Trajectory} {p b e : ℕ} {ws : List ℕ} → b < e → Reading P T passes p b e ws
    → (m : ℕ) (us vs : List ℕ) → b < m → Reading P T whole (field_y P p) b m us → Reading P T passes p m e vs → Reading P T passes p b e (us ++ vs)
holds_at l (done t d) m us vs h x r = absurd (omega arith)
holds_at l (pass t g y s) m us vs h x r = pass t h x r

-- ---- the words of the parts so far

-- ws are readings of the first i parts, one after the other
pub record Done (P : Procedure) (T : Trajectory) (ts : List Triple) (i : ℕ) (ws : List ℕ) : Type 0 where
  pub lists : ℕ → List ℕ
  pub reads : (j : ℕ) → j < i → Reading P T whole (part_of ts j).node (part_of ts j).begin (part_of ts j).end (lists j)
  pub words : ws ≡ concat_below lists i

module _ {P : Procedure} {T : Trajectory} {ts : List Triple} where
  pub done_none : Done P T ts 0 []
  unfolding concat_below
  done_none = record { lists = λ j. []; reads = λ j l. absurd (omega arith); words = refl }

  pub done_more : {i : ℕ} {ws us : List ℕ} → Done P T ts i ws → Reading P T whole (part_of ts i).node (part_of ts i).begin (part_of ts i).end us → Done P T ts (i + 1) (ws ++ us)
  unfolding concat_below
  done_more {i} {ws} {us} d x =
      record {
        lists = λ j. cond (eqb j i) us (d.lists j);
        reads = λ j l. by_cases (ℕ_discrete j i) (λ q. rw (eq-eqb j i q, q) x) (λ q. rw (ne_eqb j i q) (d.reads j (omega arith)));
        words = rw add-one (ap₂ ◌++◌ (d.words ∙ concat-cong d.lists (λ j. cond (eqb j i) us (d.lists j)) i (λ j l. rw (ne_eqb j i (λ q. omega arith)) refl)) (rw (eq-eqb i i refl) refl));
      }

-- what the writer of a loop has done when it stands at m: what it wrote goes before any further passes, and the table says that there are such
pub record Halfway (P : Procedure) (T : Trajectory) (table : List ℕ) (t : Triple) (before : List ℕ) (at m : ℕ) (buf : List ℕ) (end : ℕ) : Type 0 where
  pub written : ReadingWritten (λ ws. (vs : List ℕ) → Reading P T passes t.node m t.end vs → Reading P T passes t.node t.begin t.end (ws ++ vs)) before at buf end
  pub begin : m ≤ T.last
  pub ahead : InTable table t.node m t.end

module _ {P : Procedure} {T : Trajectory} {started job : ℕ} {places table : List ℕ} (s : Prepared P T started job places table) where
  -- what the table says is read
  read : {p b e : ℕ} → p < P.count → b ≤ T.last → InTable table p b e → (ws : List ℕ) × Reading P T whole p b e ws
  read {p} {b} {e} l h t = ((s.found.right p b e l h).0 t).1

-- a longer buffer, or another name of its length
pub resize : {P : Procedure} {T : Trajectory} {started job : ℕ} {places table : List ℕ} {t : Triple} {at size size' : ℕ} {R : Procedure → Trajectory → Triple → List ℕ → Type 0}
    → size' ≡ size → Writable R P T started job places table t at size → Writable R P T started job places table t at size'
resize h s = rw h s

-- nodes and moments are below 64
module _ {P : Procedure} {T : Trajectory} {started job : ℕ} {places table : List ℕ} {t : Triple} {at size : ℕ} {R : Procedure → Trajectory → Triple → List ℕ → Type 0}
    (s : Writable R P T started job places table t at size) where
  pub moments : (t.node < 64) × (t.begin < 64) × (t.end < 64)
  moments =
      let few = s.prepared.ready.few in
      let last = s.prepared.ready.moments in
      let node = s.known in
      let begin = s.within in
      let end = end_last s.prepared node begin s.found in
      (omega arith, omega arith, omega arith)

  -- its parts can be chosen, where it is no loop
  pub choosable : (form_at P t.node ≡ While → ⊥) → Choosable P T started job places table t
  choosable other = record { prepared = s.prepared; known = s.known; within = s.within; found = s.found; other = other }

-- ---- the node's own word

module _ {P : Procedure} {T : Trajectory} {started job : ℕ} {places table : List ℕ} {t : Triple} {at size : ℕ} (s : Writable Full P T started job places table t at size) where
  pub has_room : at + 1 ≤ size
  has_room =
      let r = read s.prepared s.known s.within s.found in
      omega (arith, s.room r.0 r.1, nonempty r.1)

  pub headed : Writable Rest P T started job places table t (at + 1) size
  headed = record {
    prepared = s.prepared;
    known = s.known;
    within = s.within;
    found = s.found;
    room = λ ws r. omega (arith, s.room (reading_word t.node t.begin t.end ∷ ws) r);
  }

module _ {P : Procedure} {T : Trajectory} {started job : ℕ} {places table : List ℕ} {t : Triple} {at size : ℕ} (s : Writable Rest P T started job places table t at size) where
  -- ---- parts

  module _ {ts : List Triple} (c : Chosen P T table t.node t.begin t.end ts) where
    whole_parts : {ws : List ℕ} → Done P T ts (length ts) ws → Rest P T t ws
    whole_parts d = rw d.words (c.reads d.lists d.reads)

    -- the parts that are left can be read
    complete : (k i : ℕ) {ws : List ℕ} → i + k ≡ length ts → Done P T ts i ws → (vs : List ℕ) × Done P T ts (length ts) (ws ++ vs)
    complete zero i {ws} h d = let q : i ≡ length ts = omega arith in ([], rw append-nil (rw q at d))
    complete (suc k) i {ws} h d =
        let l : i < length ts = omega arith in
        let n = c.lower i l in
        let m = s.known in
        let (us, x) = read s.prepared {p = (part_of ts i).node} (omega arith) (c.begin i l) (c.found i l) in
        let (vs, y) = complete k (i + 1) (omega arith) (done_more d x) in
        (us ++ vs, rw append_assoc at y)

    module _ {before buf : List ℕ} {i end : ℕ} (l : i < length ts) (w : ReadingWritten (Done P T ts i) before at buf end) where
      pub part_child : Writable Full P T started job places table (part_of ts i) end size
      part_child = record {
        prepared = s.prepared;
        known = let n = c.lower i l in let m = s.known in omega arith;
        within = c.begin i l;
        found = c.found i l;
        room = λ us x.
            let (k, q) = left in
            let (vs, y) = complete k (i + 1) (omega arith) (done_more w.allowed x) in
            omega (arith, s.room _ (whole_parts y), w.ended, length-append (w.words ++ us) vs, length-append w.words us);
      }
        where
          left : (k : ℕ) × (i + 1 + k ≡ length ts)
          left = (length ts - (i + 1), omega arith)

      pub part_more : {buf' : List ℕ} {end' : ℕ} → ReadingWritten (Full P T (part_of ts i)) buf end buf' end' → ReadingWritten (Done P T ts (i + 1)) before at buf' end'
      part_more x = written_then (λ ws us d y. done_more d y) w x

    pub part_end : {before buf : List ℕ} {i end : ℕ} → i ≡ length ts → ReadingWritten (Done P T ts i) before at buf end → ReadingWritten (Rest P T t) before at buf end
    part_end {i = i} h w = written-map (λ ws d. whole_parts (rw h at d)) w

  -- ---- passes

  module _ (f : form_at P t.node ≡ While) where
    pub body_lower : field_y P t.node < t.node
    body_lower = (rw f at (s.prepared.ready.formed t.node s.known).lower).0

    body_node : field_y P t.node < P.count
    body_node = let l = body_lower in let m = s.known in omega arith

    end : t.end ≤ T.last
    end = end_last s.prepared s.known s.within s.found

    -- the passes from a moment on
    from : {m : ℕ} → m ≤ T.last → InTable table t.node m t.end → (us : List ℕ) × Reading P T passes t.node m t.end us
    from l h = loop_of f (read s.prepared s.known l h).1

    pub pass_start : (l : List ℕ) → Halfway P T table t l at t.begin l at
    pass_start l = record { written = written_none l at (λ vs r. r); begin = s.within; ahead = s.found }

    module _ {before buf : List ℕ} {m here : ℕ} (h : Halfway P T table t before at m buf here) where
      pub pass_some : {y : ℕ} → y ≡ field_y P t.node → m < t.end → (k : ℕ) × (i : ℕ) × CutAt table y t.node m t.end at_once (m + 1) k i
      pass_some {y} q l =
          let (us, r) = from h.begin h.ahead in
          let (k, xs, vs, g, x, rest) = first_pass l r in
          let late = onward rest in
          let last = s.prepared.ready.moments in
          let n = end in
          let right = s.prepared.found.right in (
            k,
            k,
            record {
              after = omega arith;
              end = omega arith;
              early = omega arith;
              late = omega arith;
              quiet = λ t i j. absurd (omega arith);
              begin = omega arith;
              ends = rw q ((right (field_y P t.node) m k body_node h.begin).1 (omega arith, (xs, x)));
              begins = (right t.node k t.end s.known (omega arith)).1 (n, (_, loop f rest));
            },
          )

      pub pass_ready : {y : ℕ} → y ≡ field_y P t.node → m < t.end → CutReady table y t.node m t.end at_once (m + 1)
      pass_ready q l =
          let (node, begin, finish) = moments s in
          let lower = body_lower in
          record {
            within = record { left = omega arith; right = node; begin = omega arith; finish = finish; size = s.prepared.found.size };
            early = omega arith;
            late = omega arith;
            some = pass_some q l;
          }

      module _ {y k i : ℕ} (q : y ≡ field_y P t.node) (l : m < t.end) (c : CutAt table y t.node m t.end at_once (m + 1) k i) where
        same : i ≡ k
        same = let a = c.early in let z = c.late in omega arith

        rest_begin : k ≤ T.last
        rest_begin = moment s.prepared s.known s.within s.found t.node k t.end c.end (rw same at c.begins)

        longer : (ws us : List ℕ) → ((vs : List ℕ) → Reading P T passes t.node m t.end vs → Reading P T passes t.node t.begin t.end (ws ++ vs))
            → Reading P T whole y m k us → (vs : List ℕ) → Reading P T passes t.node k t.end vs → Reading P T passes t.node t.begin t.end ((ws ++ us) ++ vs)
        longer ws us w x vs r =
            let g = c.after in
            rw append_assoc (w (us ++ vs) (holds_at l (from h.begin h.ahead).1 k us vs (omega arith) (rw q at x) r))

        pub pass_child : Writable Full P T started job places table (record { node = y; begin = m; end = k }) here size
        pass_child = record {
          prepared = s.prepared;
          known = rw q body_node;
          within = h.begin;
          found = c.ends;
          room = λ us x.
              let w = h.written in
              let (vs, r) = from rest_begin (rw same at c.begins) in
              omega (arith, s.room _ (loop f (longer w.words us w.allowed x vs r)), w.ended, length-append (w.words ++ us) vs, length-append w.words us);
        }

        pub pass_more : {buf' : List ℕ} {here' : ℕ} → ReadingWritten (Full P T (record { node = y; begin = m; end = k })) buf here buf' here'
            → Halfway P T table t before at k buf' here'
        pass_more w = record { written = written_then longer h.written w; begin = rest_begin; ahead = rw same at c.begins }

      pub pass_end : t.end ≤ m → ReadingWritten (Rest P T t) before at buf here
      pass_end l =
          let (us, r) = from h.begin h.ahead in
          let none = no_pass l r in
          written-map (λ ws w. loop f (rw (none, append-nil) at (w us r))) h.written
