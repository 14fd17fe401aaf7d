-- The parts of a node of each form: by the table there are such, and with them the node is read. Assumes nothing.
use Prim.Native.Nat.{ℕ, zero, suc, ◌+◌, ◌≤◌, ◌<◌}
use mathlib.Core.Path.{◌≡◌, ◌∙◌}
use mathlib.Core.Logic.{◌⊎◌, inl, inr, ⊎_elim}
use mathlib.Core.List.{List, [], ◌∷◌, ◌++◌}
use native.Mathlib.Omega.{arith}
use lib.ListN.{length, length-take, length-map}
use lib.Seq.{get_or-take}
use Rattle.words.specs.Scan.{concat_below}
use Rattle.words.specs.Fields.{holds, reading_word, member_node}
use Rattle.model.specs.Trajectory.{Trajectory}
use Rattle.model.specs.Procedure.{Procedure}
use Rattle.sets.specs.Set.{member_count}
use Rattle.sets.specs.Code.Set.{member}
use Rattle.sets.specs.Code.Rows.{task_set_of, Placeable}
use Rattle.model.specs.Code.Table.{InTable}
use Rattle.model.specs.declared.Triple.{Triple}
use Rattle.model.specs.Forms.{Form, Act, Test, Sequence, Choice, If, StartWindow, EndWindow, Set, Reserved, form_at, field_x, field_y, field_m, field_n}
use Rattle.model.specs.Code.Forms.{children_as, Below}
use Rattle.reading.specs.Forms.{set_at}
use Rattle.reading.specs.Reading.{whole, Reading, act, test, sequence, first, second, taken, otherwise, start_window, end_window, set, HasReading}
use Rattle.reading.specs.Code.Rule.{Rule}
use Rattle.reading.proofs.Step.{step, carry}
use Rattle.reading.proofs.Nodes.{members_lower}
use Rattle.reading.proofs.Quiet.{quiet_law}
use Rattle.reading.specs.Code.Quiet.{pause_of, at_once}
use Rattle.extract.specs.Code.Search.{CutAt, StartAt}
use Rattle.extract.specs.declared.parts.Parts.{Parts}
use Rattle.extract.specs.Code.Parts.{triple_of, parts_in, part_of, PlacedParts, Prepared, Chosen}

-- what holds of 0 and of 1 holds of each number below 2
below_two : (F : ℕ → Type 0) → F 0 → F 1 → (i : ℕ) → i < 2 → F i
below_two F a b zero l = a
below_two F a b (suc zero) l = b
below_two F a b (suc (suc i)) l = absurd (omega arith)

below_one : (F : ℕ → Type 0) → F 0 → (i : ℕ) → i < 1 → F i
below_one F a zero l = a
below_one F a (suc i) l = absurd (omega arith)

module _ {P : Procedure} {T : Trajectory} {started size : ℕ} {places table : List ℕ} (s : Prepared P T started size places table)
    {p b e : ℕ} (node : p < P.count) (begin : b ≤ T.last) (here : InTable table p b e) where
  abbrev Reads : ℕ → ℕ → ℕ → List ℕ → Type 0
  Reads = Reading P T whole

  reading : HasReading P T p b e
  reading = (s.found.right p b e node begin).0 here

  lowers : (k : Form) → form_at P p ≡ k → Below p (children_as P k p)
  lowers k f = rw f at (s.ready.formed p node).lower

  -- the rule of the node's form, by the table
  pub rule : (k : Form) → form_at P p ≡ k → Rule P T (InTable table) k p b e
  rule k f =
      rw f at (carry P T e (form_at P p) (s.ready.formed p node).lower begin (λ q c d filled l r. (s.found.right q c d (lower q c filled) l).1 r) ((step begin).0 reading))
    where
      lower : (q c : ℕ) → (q < p) ⊎ ((q ≡ p) × (b + 1 ≤ c)) → q < P.count
      lower q c (inl h) = omega arith
      lower q c (inr h) = let g = h.0 in omega arith

  -- a moment at which a lower node has an end is no later than the last one
  pub moment : (q m l : ℕ) → m < 64 → InTable table q m l → m ≤ T.last
  moment q m l h r = (s.found.beyond q m l h r).1

  pub end_last : e ≤ T.last
  end_last = reading.0

  -- ---- no part

  chosen_none : Reads p b e (reading_word p b e ∷ []) → Chosen P T table p b e []
  unfolding concat_below
  chosen_none r =
      record {
        lower = λ i l. absurd (omega arith);
        begin = λ i l. absurd (omega arith);
        found = λ i l. absurd (omega arith);
        reads = λ us rs. r;
      }

  pub act_chosen : form_at P p ≡ Act → Chosen P T table p b e []
  act_chosen f = let r = rule Act f in chosen_none (act f r.0 r.1)

  pub test_chosen : form_at P p ≡ Test → Chosen P T table p b e []
  test_chosen f = let r = rule Test f in chosen_none (test f r.0 r.1)

  -- a node of a reserved form is not read
  pub reserved_chosen : {ts : List Triple} → form_at P p ≡ Reserved → Chosen P T table p b e ts
  reserved_chosen f = absurd (rule Reserved f)

  -- ---- one part

  chosen_one : {q : ℕ} → q < p → InTable table q b e → ((us : List ℕ) → Reads q b e us → Reads p b e (reading_word p b e ∷ us)) → Chosen P T table p b e (triple_of q b e ∷ [])
  unfolding concat_below
  chosen_one {q} l t r =
      let ts : List Triple = (triple_of q b e ∷ []) in
      record {
        lower = below_one (λ i. (part_of ts i).node < p) l;
        begin = below_one (λ i. (part_of ts i).begin ≤ T.last) begin;
        found = below_one (λ i. InTable table (part_of ts i).node (part_of ts i).begin (part_of ts i).end) t;
        reads = λ us rs. r (us 0) (rs 0 (omega arith));
      }

  module _ {x y : ℕ} (f : form_at P p ≡ Choice) (ex : x ≡ field_x P p) (ey : y ≡ field_y P p) where
    pub choice_some : InTable table x b e ⊎ InTable table y b e
    choice_some = rw (ex, ey) (rule Choice f)

    pub choice_chosen : {q : ℕ} → (q ≡ x) ⊎ (q ≡ y) → InTable table q b e → Chosen P T table p b e (triple_of q b e ∷ [])
    choice_chosen (inl h) t = let l = (lowers Choice f).0 in chosen_one (omega arith) t (λ us r. first f (rw (h, ex) at r))
    choice_chosen (inr h) t = let l = (lowers Choice f).1.0 in chosen_one (omega arith) t (λ us r. second f (rw (h, ey) at r))

  module _ {v y z : ℕ} (f : form_at P p ≡ If) (ev : v ≡ T.value (field_x P p) b) (ey : y ≡ field_y P p) (ez : z ≡ field_m P p) where
    pub if_chosen : {q : ℕ} → ((v ≡ holds) × (q ≡ y)) ⊎ ((v ≡ holds → ⊥) × (q ≡ z)) → Chosen P T table p b e (triple_of q b e ∷ [])
    if_chosen (inl h) = ⊎_elim
        (λ g. let l = (lowers If f).0 in chosen_one (omega (arith, h.1)) (rw (h.1, ey) g.1) (λ us r. taken f g.0 (rw (h.1, ey) at r)))
        (λ g. absurd (omega (arith, h.0, g.0))) (rule If f)
    if_chosen (inr h) = ⊎_elim
        (λ g. absurd (h.0 (ev ∙ g.0)))
        (λ g. let l = (lowers If f).1.0 in chosen_one (omega (arith, h.1)) (rw (h.1, ez) g.1) (λ us r. otherwise f g.0 (rw (h.1, ez) at r))) (rule If f)

  -- ---- two parts

  chosen_two : {x k y m l : ℕ} → x < p → y < p → InTable table x b k → InTable table y m l → m ≤ T.last
      → ((us vs : List ℕ) → Reads x b k us → Reads y m l vs → Reads p b e (reading_word p b e ∷ (us ++ vs))) → Chosen P T table p b e (triple_of x b k ∷ triple_of y m l ∷ [])
  unfolding concat_below
  chosen_two {x} {k} {y} {m} {l} hx hy tx ty hm r =
      let ts : List Triple = (triple_of x b k ∷ triple_of y m l ∷ []) in
      record {
        lower = below_two (λ i. (part_of ts i).node < p) hx hy;
        begin = below_two (λ i. (part_of ts i).begin ≤ T.last) begin hm;
        found = below_two (λ i. InTable table (part_of ts i).node (part_of ts i).begin (part_of ts i).end) tx ty;
        reads = λ us rs. r (us 0) (us 1) (rs 0 (omega arith)) (rs 1 (omega arith));
      }

  module _ {x y : ℕ} (f : form_at P p ≡ Sequence) (ex : x ≡ field_x P p) (ey : y ≡ field_y P p) where
    pub sequence_some : (k : ℕ) × (m : ℕ) × CutAt table x y b e at_once b k m
    sequence_some =
        let r = rule Sequence f in
        let l = r.upto in
        let small = s.ready.moments in
        (r.m, r.m, record { after = r.early; end = omega arith; early = omega arith; late = omega arith; quiet = λ t i j. absurd (omega arith); begin = omega arith; ends = rw ex r.left; begins = rw ey r.right })

    pub sequence_chosen : {k m : ℕ} → CutAt table x y b e at_once b k m → Chosen P T table p b e (triple_of x b k ∷ triple_of y m e ∷ [])
    sequence_chosen {k} {m} c =
        let (lx, (ly, none)) = lowers Sequence f in
        let h = c.early in
        let g = c.late in
        let q : m ≡ k = omega arith in
        chosen_two (omega arith) (omega arith) c.ends c.begins (moment _ _ _ c.begin c.begins) (λ us vs r t. sequence f (rw ex at r) (rw (ey, q) at t))

  module _ {x y : ℕ} (f : form_at P p ≡ EndWindow) (ex : x ≡ field_x P p) (ey : y ≡ field_y P p) where
    pub end_some : (k : ℕ) × (m : ℕ) × CutAt table x y b e (pause_of (P.node p) started) b k m
    end_some =
        let r = rule EndWindow f in
        let l = r.upto in
        let g = r.early in
        let small = s.ready.moments in
        (r.k, r.m, record { after = r.after; end = omega arith; early = g; late = r.late; quiet = (quiet_law T s.mask r.k r.m).1 r.quiet; begin = omega arith; ends = rw ex r.left; begins = rw ey r.right })

    pub end_chosen : {k m : ℕ} → CutAt table x y b e (pause_of (P.node p) started) b k m → Chosen P T table p b e (triple_of x b k ∷ triple_of y m e ∷ [])
    end_chosen {k} {m} c =
        let (lx, (ly, none)) = lowers EndWindow f in
        chosen_two (omega arith) (omega arith) c.ends c.begins (moment _ _ _ c.begin c.begins)
        (λ us vs r t. end_window f (rw ex at r) (rw ey at t) c.early c.late ((quiet_law T s.mask k m).0 c.quiet))

  module _ {x y least most : ℕ} (f : form_at P p ≡ StartWindow) (ex : x ≡ field_x P p) (ey : y ≡ field_y P p) (em : least ≡ field_m P p) (en : most ≡ field_n P p) where
    pub start_some : (k : ℕ) × (m : ℕ) × (l : ℕ) × StartAt table x y b e least most k m l
    start_some =
        let r = rule StartWindow f in
        let l = r.upto in
        let small = s.ready.moments in
        (r.k, r.m, r.l, record { early = rw em r.early; late = rw en r.late; begin = omega arith; ends = record { first = rw ex r.left; second = rw ey r.right; greater = r.greater } })

    pub start_chosen : {k m l : ℕ} → StartAt table x y b e least most k m l → Chosen P T table p b e (triple_of x b k ∷ triple_of y m l ∷ [])
    start_chosen c =
        let (lx, (ly, none)) = lowers StartWindow f in
        chosen_two (omega arith) (omega arith) c.ends.first c.ends.second (moment _ _ _ c.begin c.ends.second)
        (λ us vs r t. start_window f (rw ex at r) (rw ey at t) (rw em at c.early) (rw en at c.late) c.ends.greater)

  -- ---- a task set

  module _ (f : form_at P p ≡ Set) where
    pub set-some : Placeable (set_at P T p) table b e
    set-some =
        let few = s.ready.few in
        record {
          formed = (s.ready.formed p node).set f;
          rows = λ i h. let lower = members_lower P T p f (s.ready.formed p node) i h in omega (arith, s.found.size);
          rule = rule Set f;
        }

    pub set-chosen : {r : Parts} → length r.triples ≡ 4 → PlacedParts (set_at P T p) table b e r → (r.count ≤ 4) × Chosen P T table p b e (parts_in r)
    set-chosen {r} long c =
        let l = members_lower P T p f (s.ready.formed p node) in
        let few : r.count ≤ 4 = rw c.count ((s.ready.formed p node).set f).few in
        let pl = c.placed.placing in
        let within = pl.within in
        let size : length (parts_in r) ≡ member_count (set_at P T p) = omega (arith, length-take r.count r.triples, long, few, c.count) in
        let part : (i : ℕ) → i < member_count (set_at P T p) → part_of (parts_in r) i ≡ triple_of (member (set_at P T p) i) (c.begins i) (c.ends i)
        = λ i h. get_or-take r.count r.triples i _ (omega (arith, c.count)) ∙ c.parts i h in (
          few,
          record {
            lower = λ i h. let g = rw size at h in rw (part i g) (l i g);
            begin = λ i h. let g = rw size at h in let inside = pl.inside i g in rw (part i g) (omega arith);
            found = λ i h. let g = rw size at h in rw (part i g) (c.placed.reads i g);
            reads = λ us rs. rw size (set f (λ i h. rw (part i h) at (rs i (rw size h))) pl);
          },
        )

-- A task set that can be placed, given by its member words, has at most four of these.
pub few_members : (ms cs vs table : List ℕ) (n b e : ℕ) → Placeable (task_set_of ms cs vs n) table b e → length ms ≤ 4
few_members ms cs vs table n b e s = rw (length-map ms member_node) at s.formed.few
