-- What a reading (004's trace) is: node p is read from moment b to moment e, and ws are the words of the nodes that were used, each with
-- its begin and end. Starts that no act uses are allowed, but for those in the pause of an end window. That b ≤ e follows (`onward`,
-- proofs/Step.antt), and so do the parts' places in b..e. The mode tells a whole reading of a node from the passes of a loop, so that a
-- loop's own word stands once.
use Rattle.std.specs.Prelude.{ℕ, ◌+◌, ◌<◌, ◌≤◌, max, true, false, ◌≡◌, List, [], ◌∷◌, ◌++◌, length, get_or}
use Rattle.words.specs.Scan.{concat_below}
use Rattle.words.specs.Fields.{fails, holds, reading_word}
use Rattle.model.specs.Trajectory.{Trajectory}
use Rattle.model.specs.Procedure.{Procedure}
use Rattle.sets.specs.Set.{Placing}
use Rattle.model.specs.Forms.{Act, Test, Sequence, Choice, If, While, StartWindow, EndWindow, Set, form_at, field_x, field_y, field_m, field_n}
use Rattle.reading.specs.Forms.{set_at}

-- no action starts at k ≤ t < m: a pause from k to m is quiet (Definition 6 of 004)
abbrev pub Quiet : Trajectory → ℕ → ℕ → Type 0
Quiet T k m = (a t : ℕ) → k ≤ t → t < m → T.starts a t ≡ false

pub data Mode : Type 0 where
  whole passes : Mode

pub data Reading (P : Procedure) (T : Trajectory) : Mode → ℕ → ℕ → ℕ → List ℕ → Type 0 where
  -- 0: a start of X at b, and e = b + d
  act : {p b e : ℕ} → form_at P p ≡ Act → T.starts (field_x P p) b ≡ true → e ≡ b + T.duration (field_x P p)
      → Reading P T whole p b e (reading_word p b e ∷ [])
  -- 1: e = b and formula X holds at b
  test : {p b e : ℕ} → form_at P p ≡ Test → T.value (field_x P p) b ≡ holds → e ≡ b → Reading P T whole p b e (reading_word p b e ∷ [])
  -- 2: for some m, X reads b to m and Y reads m to e
  sequence : {p b m e : ℕ} {us vs : List ℕ} → form_at P p ≡ Sequence
      → Reading P T whole (field_x P p) b m us → Reading P T whole (field_y P p) m e vs
      → Reading P T whole p b e (reading_word p b e ∷ (us ++ vs))
  -- 3: either reads b to e
  first : {p b e : ℕ} {us : List ℕ} → form_at P p ≡ Choice → Reading P T whole (field_x P p) b e us
      → Reading P T whole p b e (reading_word p b e ∷ us)
  second : {p b e : ℕ} {us : List ℕ} → form_at P p ≡ Choice → Reading P T whole (field_y P p) b e us
      → Reading P T whole p b e (reading_word p b e ∷ us)
  -- 4: X holds at b and Y reads b to e, or X fails at b and M does
  taken : {p b e : ℕ} {us : List ℕ} → form_at P p ≡ If → T.value (field_x P p) b ≡ holds → Reading P T whole (field_y P p) b e us
      → Reading P T whole p b e (reading_word p b e ∷ us)
  otherwise : {p b e : ℕ} {us : List ℕ} → form_at P p ≡ If → T.value (field_x P p) b ≡ fails → Reading P T whole (field_m P p) b e us
      → Reading P T whole p b e (reading_word p b e ∷ us)
  -- 5: X fails at b and e = b; or X holds at b, Y reads b to m with m > b, and the loop reads m to e
  loop : {p b e : ℕ} {us : List ℕ} → form_at P p ≡ While → Reading P T passes p b e us → Reading P T whole p b e (reading_word p b e ∷ us)
  done : {p b e : ℕ} → T.value (field_x P p) b ≡ fails → e ≡ b → Reading P T passes p b e []
  pass : {p b m e : ℕ} {us vs : List ℕ} → T.value (field_x P p) b ≡ holds → b < m
      → Reading P T whole (field_y P p) b m us → Reading P T passes p m e vs → Reading P T passes p b e (us ++ vs)
  -- 6: X reads b to k, Y reads m to l, b + M ≤ m ≤ b + N, e is the greater of k and l
  start_window : {p b k m l e : ℕ} {us vs : List ℕ} → form_at P p ≡ StartWindow
      → Reading P T whole (field_x P p) b k us → Reading P T whole (field_y P p) m l vs
      → b + field_m P p ≤ m → m ≤ b + field_n P p → e ≡ max k l
      → Reading P T whole p b e (reading_word p b e ∷ (us ++ vs))
  -- 7: X reads b to k, Y reads m to e, k + M ≤ m ≤ k + N, and no action starts at k ≤ t < m
  end_window : {p b k m e : ℕ} {us vs : List ℕ} → form_at P p ≡ EndWindow
      → Reading P T whole (field_x P p) b k us → Reading P T whole (field_y P p) m e vs
      → k + field_m P p ≤ m → m ≤ k + field_n P p → Quiet T k m
      → Reading P T whole p b e (reading_word p b e ∷ (us ++ vs))
  -- 8: each member i reads bs i to es i, and these begins and ends are lawful from b to e
  set : {p b e : ℕ} {bs es : ℕ → ℕ} {us : ℕ → List ℕ} → form_at P p ≡ Set
      → ((i : ℕ) → i < length (P.members p) → Reading P T whole (get_or (P.members p) i 0) (bs i) (es i) (us i))
      → Placing (set_at P T p) b e bs es
      → Reading P T whole p b e (reading_word p b e ∷ concat_below us (length (P.members p)))

-- the triple (p, b, e) has a reading: e is no later than the last moment, and some list of words is a reading of p from b to e
abbrev pub HasReading : Procedure → Trajectory → ℕ → ℕ → ℕ → Type 0
HasReading P T p b e = (e ≤ T.last) × ((ws : List ℕ) × Reading P T whole p b e ws)
