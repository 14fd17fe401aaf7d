-- The pause of an end window: the moments at which some action starts, and up to when it is quiet. Assumes nothing.
use Prim.Native.Nat.{ℕ, ◌+◌, ◌^◌, ◌≤◌, ◌<◌}
use mathlib.Core.Path.{◌≡◌, refl}
use mathlib.Core.Bool.{true, ◌&&◌, ◌||◌}
use mathlib.Core.Logic.{◌↔◌, inl, inr, ⊎_elim, by_cases}
use mathlib.Core.List.{List, [], ◌∷◌, ◌++◌}
use native.Mathlib.Decide.{dec_lt}
use native.Mathlib.Omega.{arith}
use lib.Dec.{leb, ltb}
use lib.ListN.{length, get_or-append, get_or-eq_default}
use lib.Seq.{get_or-append_seam}
use Rattle.std.proofs.lemmas.List.{length_push}
use Rattle.words.proofs.Choices.{is_false}
use Rattle.bitset.specs.Code.Members.{has, IsSetOf, In}
use Rattle.bitset.proofs.Bools.{not_both}
use Rattle.bitset.proofs.Digits.{has-zero}
use Rattle.bitset.proofs.In.{in_union, in_both, in_from, in_below, in_zero}
use Rattle.model.specs.Trajectory.{Trajectory}
use Rattle.reading.specs.Reading.{Quiet}
use Rattle.reading.specs.Code.Rule.{EndsWithin}
use Rattle.reading.specs.declared.pauses.Pause.{Pause}
use Rattle.reading.specs.Code.Quiet.{start_in, AllStarts, QuietIn, QuietUpto}

-- ---- up to when a pause is quiet

module _ (pause : Pause) {k later : ℕ} (f : ℕ) (small : pause.started < 2 ^ 64) (F : IsSetOf f (λ j. leb k j && ltb j 64))
    (L : IsSetOf later (λ j. has pause.started j && has f j)) where
  in_later : (t : ℕ) → k ≤ t → has pause.started t ≡ true → In later t
  in_later t l h = let i : In pause.started t = record { yes = h } in (in_both L t).1 (i, (in_from F t).1 (l, in_below small i))

  pub upto_none : later ≡ 0 → QuietUpto pause k (k + pause.most)
  upto_none z = record { at = λ m. (λ h. (h, λ t a b. is_false (has pause.started t) (λ e. in_zero z (in_later t a e))), λ h. h.0) }

-- a window that ends where the quiet does
pub quiet_window : {w k low end n : ℕ} {pause : Pause} → QuietUpto pause k end → ((m : ℕ) → In w m ↔ ((low ≤ m) × (m ≤ end) × (m ≤ n)))
    → (m : ℕ) → In w m ↔ ((low ≤ m) × (m ≤ k + pause.most) × (m ≤ n) × QuietIn pause.started k m)
quiet_window q w m = (
  λ i. let (l, h, u) = (w m).0 i in let (g, s) = (q.at m).0 h in (l, g, u, s),
  λ h. (w m).1 (h.0, (q.at m).1 (h.1, h.3), h.2),
)

-- ---- the moments at which some action starts

-- no set of a list has a member but those that stand in it
started-within : (sets : List ℕ) (a t : ℕ) → start_in sets a t ≡ true → a < length sets
started-within sets a t h = by_cases (dec_lt a (length sets)) (λ l. l) (λ l. not_both h (rw (get_or-eq_default sets 0 {n = a} (omega arith)) (has-zero t)))

pub started_none : AllStarts (start_in []) 0
started_none = record { at = λ t. (in_zero refl, λ h. absurd (omega (arith, started-within [] h.0 t h.1))) }

-- with the set of one more action
pub started-more : (sets : List ℕ) (one : ℕ) {started more : ℕ} → AllStarts (start_in sets) started → IsSetOf more (λ t. has started t || has one t)
    → AllStarts (start_in (sets ++ (one ∷ []))) more
started-more sets one s U = record {
  at = λ t. (
    λ i. ⊎_elim
        (λ j. let (a, h) = (s.at t).0 j in (a, rw (get_or-append sets (one ∷ []) 0 a (started-within sets a t h)) h))
        (λ j. (length sets, rw (get_or-append_seam sets one [] 0) j.yes))
        ((in_union U t).0 i),
    λ (a, h). (in_union U t).1 (by_cases (dec_lt a (length sets))
        (λ l. inl ((s.at t).1 (a, rw (get_or-append sets (one ∷ []) 0 a l) at h)))
        (λ l. let last : a ≡ length sets = omega (arith, started-within (sets ++ (one ∷ [])) a t h, length_push sets one) in
        inr (record { yes = rw (last, get_or-append_seam sets one [] 0) at h }))),
  );
}

-- ---- by that set, or by the starts

-- an end by one test of the pause is one by another that follows from it
ends_map : {b least most last : ℕ} {X Y : ℕ → Type 0} {Q Q' : ℕ → ℕ → Type 0} → ((k m : ℕ) → Q k m → Q' k m)
    → EndsWithin b least most last Q X Y → EndsWithin b least most last Q' X Y
ends_map h r = record {
  k = r.k;
  m = r.m;
  after = r.after;
  early = r.early;
  late = r.late;
  upto = r.upto;
  left = r.left;
  right = r.right;
  quiet = h r.k r.m r.quiet;
}

module _ (T : Trajectory) {started : ℕ} (any : AllStarts T.starts started) where
  pub quiet_law : (k m : ℕ) → QuietIn started k m ↔ Quiet T k m
  quiet_law k m = (
    λ q a t x y. is_false (T.starts a t) (λ e. not_both ((any.at t).1 (a, e)).yes (q t x y)),
    λ q t x y. is_false (has started t) (λ e. let (a, h) = (any.at t).0 (record { yes = e }) in not_both h (q a t x y)),
  )

  pub ends_law : {b least most last : ℕ} {X Y : ℕ → Type 0} → EndsWithin b least most last (QuietIn started) X Y ↔ EndsWithin b least most last (Quiet T) X Y
  ends_law = (ends_map (λ k m. (quiet_law k m).0), ends_map (λ k m. (quiet_law k m).1))
