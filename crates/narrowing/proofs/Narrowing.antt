-- What members keep as one of them is placed. Assumes nothing.
use Prim.Native.Nat.{ℕ, ◌≤◌, ◌<◌}
use mathlib.Core.Path.{◌≡◌, sym, ◌∙◌}
use mathlib.Core.Logic.{◌↔◌}
use mathlib.Core.List.{List}
use lib.ListN.{length, set}
use Rattle.bitset.specs.Code.Members.{In}
use Rattle.keeping.specs.declared.Choice.{Choice}
use Rattle.narrowing.specs.Code.Open.{choice_at, InDomains}
use Rattle.narrowing.proofs.Moves.{choice_set}

-- the members have bs and es, those of a member that is not left no other begin, and `sought` has the last end
pub record Has (count : ℕ) (members : List Choice) (left last sought : ℕ) (bs es : ℕ → ℕ) : Type 0 where
  pub begin : (i : ℕ) → i < count → In (choice_at members i).begins (bs i)
  pub end : (i : ℕ) → i < count → In (choice_at members i).ends (es i)
  pub fixed : (i x : ℕ) → i < count → (In left i → ⊥) → In (choice_at members i).begins x → x ≡ bs i
  pub final : In sought (es last)

-- begins and ends from a on, of which the last is that of member `last`
abbrev pub Ordered : ℕ → ℕ → ℕ → (ℕ → ℕ) → (ℕ → ℕ) → Type 0
Ordered count a last bs es = (i : ℕ) → i < count → (a ≤ bs i) × (bs i ≤ es i) × (es i ≤ es last)

-- a member that is given one begin
pub has-start : {count : ℕ} (members : List Choice) {left left' last sought : ℕ} (i w x : ℕ) {bs es : ℕ → ℕ} → i < length members
    → ((y : ℕ) → In w y ↔ (y ≡ x)) → ((k : ℕ) → In left' k ↔ (In left k × (k ≡ i → ⊥))) → bs i ≡ x
    → Has count members left last sought bs es → Has count (set members i (record { begins = w; ends = (choice_at members i).ends })) left' last sought bs es
has-start {count} members i w x {bs} {es} room single without q h = record {
  begin = λ k l. choice_set (λ m. In m.begins (bs k)) members i _ room (λ r. (single (bs k)).1 (rw r q)) (λ n. h.begin k l);
  end = λ k l. choice_set (λ m. In m.ends (es k)) members i _ room (λ r. rw (← r) (h.end k l)) (λ n. h.end k l);
  fixed = λ k y l n. choice_set (λ m. In m.begins y → y ≡ bs k) members i _ room
      (λ r t. rw r ((single y).0 t ∙ sym q)) (λ r. h.fixed k y l (λ t. n ((without k).1 (t, r))));
  final = h.final;
}

-- member j keeps fewer begins and ends
pub has-next : {count : ℕ} {members : List Choice} {left last sought : ℕ} (j : ℕ) (v : Choice) (s : ℕ) {bs es : ℕ → ℕ} → j < length members
    → In v.begins (bs j) → In v.ends (es j) → ((y : ℕ) → In v.begins y → In (choice_at members j).begins y) → In s (es last)
    → Has count members left last sought bs es → Has count (set members j v) left last s bs es
has-next {members = members} j v s {bs} {es} room new new' fewer final h = record {
  begin = λ k l. choice_set (λ m. In m.begins (bs k)) members j v room (λ q. rw q new) (λ n. h.begin k l);
  end = λ k l. choice_set (λ m. In m.ends (es k)) members j v room (λ q. rw q new') (λ n. h.end k l);
  fixed = λ k y l n. choice_set (λ m. In m.begins y → y ≡ bs k) members j v room (λ q t. h.fixed k y l n (rw q (fewer y t))) (λ m. h.fixed k y l n);
  final = final;
}

-- all members have been narrowed
pub has_fit : {count a last left : ℕ} {members : List Choice} {sought : ℕ} {bs es : ℕ → ℕ}
    → Ordered count a last bs es → Has count members left last sought bs es
    → InDomains count (record { from = a; last = last; left = left; members = members }) bs es
has_fit inside h = record { inside = inside; begins = h.begin; ends = h.end; fixed = h.fixed }
