-- `ending::first_begins` meets its contract. The invariant: all begins are in a..z, and those before i are members where there are such.
-- Assumes nothing.
use Prim.Native.Nat.{ℕ, ◌+◌, ◌≤◌, ◌<◌}
use mathlib.Core.Path.{refl}
use mathlib.Core.Logic.{◌↔◌}
use mathlib.Core.List.{List}
use native.Mathlib.Omega.{arith}
use borrow.Author.Count.{below_more}
use lib.ListN.{length, set, length-set, replicate, get_or-replicate}
use Rattle.bitset.specs.Code.Members.{In}
use Rattle.bitset.proofs.In.{in_both, in_between, in_zero}
use Rattle.covering.specs.Code.Cover.{entry_at}
use Rattle.keeping.specs.declared.Choice.{Choice}
use Rattle.narrowing.specs.Code.Open.{choice_at}
use Rattle.words.proofs.Entries.{entries_set, entries_more, entries_alike}
use Rattle.ending.proofs.first_begins.Invariants.{Firsts}
use Rattle.ending.proofs.first_begins.Goals as goal
use Rattle.ending.proofs.first_begins.Goals.{else-mask-ne0, then-mask-ne0}

module _ (old : List Choice) (a z : ℕ) where
  none : a ≤ z → Firsts old a z 0 (replicate 4 a)
  none l =
      record {
        four = refl;
        after = λ j g. rw (get_or-replicate 4 j a 0 g) (omega arith);
        upto = entries_alike (λ x. x ≤ z) 4 a l (omega arith);
        members = λ j g. absurd (omega arith);
      }

  turn : (r : List ℕ) (i v : ℕ) → i < 4 → (In (choice_at old i).begins v × (a ≤ v) × (v ≤ z)) → Firsts old a z i r → Firsts old a z (i + 1) (set r i v)
  turn r i v l new h = record {
    four = simp length-set h.four;
    after = entries_set (λ j x. j < 4 → a ≤ x) r i v room (λ g. new.1) h.after;
    upto = entries_set (λ j x. x ≤ z) r i v room new.2 h.upto;
    members = entries_more (λ j. j) (λ j w. (x : ℕ) → In (choice_at old j).begins x → a ≤ x → x ≤ z → In (choice_at old j).begins w) r i v room (λ j g q. omega arith)
        h.members (λ x t g k. new.0);
  }
    where
      room : i < length r
      room = omega (arith, h.four)

  skip : (r : List ℕ) (i : ℕ) → ((x : ℕ) → In (choice_at old i).begins x → a ≤ x → x ≤ z → ⊥) → Firsts old a z i r → Firsts old a z (i + 1) r
  skip r i empty h = record {
    four = h.four;
    after = h.after;
    upto = h.upto;
    members = below_more (λ j. (x : ℕ) → In (choice_at old j).begins x → a ≤ x → x ≤ z → In (choice_at old j).begins (entry_at r j)) i
        h.members (λ x t g k. absurd (empty x t g k));
  }

masked : {m b w a z : ℕ} → ((x : ℕ) → In m x ↔ (In b x × In w x)) → ((x : ℕ) → In w x ↔ ((a ≤ x) × (x ≤ z)))
    → (x : ℕ) → In m x ↔ (In b x × (a ≤ x) × (x ≤ z))
masked h k x = (
  λ t. let u = (h x).0 t in let v = (k x).0 u.1 in (u.0, v.0, v.1),
  λ t. (h x).1 (t.0, (k x).1 (t.1, t.2)),
)

pub loop-i-init : goal.loop-i-init
loop-i-init c = none _ _ _ c.requires.0

pub loop-i-preserved : goal.loop-i-preserved
loop-i-preserved c =
    let n = c.inter-mask in
    let k = c.loop-i in
    let m = masked (in_both n.ensures) (in_between c.between-window.ensures) in
    let t = c.loop-i-test.true in
    elim c.if-mask-ne0.branch [
      | then-mask-ne0 y ↦ rw y.r-is (turn c.args.members.now c.args.a c.args.z k.r k.i y.lowest.result (omega (arith, c.args.tables.now.few))
          ((m y.lowest.result).0 (record { yes = y.lowest.ensures.member })) k.invariant)
      | else-mask-ne0 y ↦ rw y.r-is (skip c.args.members.now c.args.a c.args.z k.r k.i
          (λ x v g h. in_zero y.if-mask-ne0.false ((m x).1 (v, g, h))) k.invariant)
    ]

pub returns : goal.returns
returns c = let f = c.loop-i.invariant in (
  λ i l. (f.after i (omega arith), f.upto i),
  λ i. omega (arith, f.upto i, c.requires.1),
  λ i x l t g h. f.members i (omega arith) x t g h,
)
