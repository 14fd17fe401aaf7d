-- `ending::leaf` meets its contract: the ends that the fixed begins cover are those to which the set reads. Assumes nothing.
use Prim.Native.Nat.{ℕ, ◌≤◌, ◌<◌}
use mathlib.Core.Path.{◌≡◌, refl, sym, ◌∙◌}
use mathlib.Core.Logic.{◌↔◌, ◌⊎◌, inl, inr, ⊎_elim}
use mathlib.Core.List.{List}
use native.Mathlib.Omega.{arith}
use lib.ListN.{length}
use borrow.Author.Rules.{rules}
use Rattle.bitset.specs.Code.Members.{In}
use Rattle.bitset.proofs.Bools.{not_both}
use Rattle.bitset.proofs.In.{in_union, in_zero}
use Rattle.covering.specs.Code.Cover.{entry_at, Coverable}
use Rattle.narrowing.specs.Code.Open.{InDomains}
use Rattle.ending.specs.Code.Search.{Masked, ReadsWith, BeginsKept, Grown}
use Rattle.ending.specs.declared.Found.{Found}
use Rattle.ending.proofs.Leaves.{front_covers, onward, reads_with, covers_all}
use Rattle.ending.proofs.leaf.Goals as goal
use Rattle.ending.proofs.leaf.Goals.{After-covered-got}

-- the lists have a begin and a mask for each member
long : (c : After-covered-got) → let n = c.args.tables.now.count in (n ≤ length c.first_begins-begins.result) × (n ≤ length c.ends_at-masks.result)
long c = let few = c.args.tables.now.few in let four : length c.first_begins-begins.result ≡ 4 = search rules in let four' : length c.ends_at-masks.result ≡ 4 = search rules in (omega arith, omega arith)

-- what is covered, by the begins and masks of the members
covers : (c : After-covered-got) (e : ℕ) → let a = c.args in
    In c.covered-got.result e ↔ Coverable a.tables.now.count (entry_at c.first_begins-begins.result) (entry_at c.ends_at-masks.result) a.state.from e
covers c e =
    let f = front_covers _ _ _ (long c).0 (long c).1 in
    let k = c.covered-got.ensures e in
    (λ t. f.0 (k.0 t), λ h. k.1 (f.1 h))

-- the set reads to what is covered, with these begins
reads : (c : After-covered-got) (e : ℕ) → let a = c.args in
    In c.covered-got.result e → ReadsWith a.tables.now a.state.from e (entry_at c.first_begins-begins.result)
reads c e t = reads_with c.requires.state.ready c.ends_at-masks.ensures c.first_begins-begins.ensures.0 ((covers c e).0 t)

-- the end of each placement that is sought is covered
finds : (c : After-covered-got) (e : ℕ) (bs es : ℕ → ℕ) → let a = c.args in e ≤ a.found.upto
    → Masked a.tables.now a.state.from e bs es → InDomains a.tables.now.count a.state bs es → In c.covered-got.result e
finds c e bs es u m fits =
    let same : (i : ℕ) → i < c.args.tables.now.count → bs i ≡ entry_at c.first_begins-begins.result i
    = λ i l. let o = m.inside i l in
    sym (fits.fixed i _ l (λ t. in_zero c.requires.placed t) (c.first_begins-begins.ensures.2 i (bs i) l (fits.begins i l) o.0 (omega (arith, o, u)))) in
    (covers c e).1 (covers_all c.requires.state.ready c.ends_at-masks.ensures c.first_begins-begins.ensures.0 same m)

-- what is covered is not after the last moment
within : (c : After-covered-got) (e : ℕ) → In c.covered-got.result e → e ≤ c.args.found.upto
within c e t =
    let k = ((covers c e).0 t).last in
    (onward c.requires.state.ready c.ends_at-masks.ensures c.first_begins-begins.ensures.0 k.at e k.below k.is).1

-- what is added, with the begins that are kept
grown : (c : After-covered-got) (ends : ℕ) → ((e : ℕ) → In ends e ↔ (In c.args.found.ends e ⊎ In c.covered-got.result e)) → (kept : List ℕ)
    → let a = c.args in
    let new : Found = record { upto = a.found.upto; ends = ends; begins = kept } in
    (BeginsKept a.tables.now a.state.from a.found
    → BeginsKept a.tables.now a.state.from new)
    → (((i : ℕ) → entry_at a.found.begins i < 64) → (i : ℕ) → entry_at kept i < 64)
    → Grown a.tables.now a.state.from a.found new
grown c ends all kept begins moments = record {
  upto = refl;
  kept = λ e t. (all e).1 (inl t);
  reads = λ e t. ⊎_elim inl (λ v. let r = reads c e v in inr (record { bs = _; es = r.es; masked = r.masked })) ((all e).0 t);
  begins = begins;
  within = λ h e t. ⊎_elim (h e) (within c e) ((all e).0 t);
  moments = moments;
}

pub returns-then-has : goal.returns-then-has
returns-then-has c = let g = (goal.at.returns-then-has c).After-covered-got in let all = in_union c.union-ends.ensures in (
  grown g c.union-ends.result all _ (λ h t. reads g _ (record { yes = sym c.has.ensures ∙ c.if-has.true })) (λ h. c.first_begins-begins.ensures.1),
  λ e bs es l m h. (all e).1 (inr (finds g e bs es l m h)),
)

pub returns : goal.returns
returns c = let g = (goal.at.returns c).After-covered-got in let all = in_union c.union-ends.ensures in (
  grown g c.union-ends.result all _ (λ h t. ⊎_elim h (λ v. not_both v.yes (sym c.has.ensures ∙ c.if-has.false)) ((all _).0 t)) (λ h. h),
  λ e bs es l m h. (all e).1 (inr (finds g e bs es l m h)),
)
