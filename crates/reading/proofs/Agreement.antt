-- Two procedures and trajectories that agree where a reading looks have the same readings, so the same table and the same count: the way
-- from the arrays of the code to the job's own definitions. Assumes nothing.
use Prim.Native.Nat.{ℕ, ◌<◌}
use mathlib.Core.Path.{◌≡◌, sym, ◌∙◌, subst}
use mathlib.Core.Logic.Iff
use mathlib.Core.Logic.{◌↔◌, inr}
use mathlib.Core.List.{List}
use native.Mathlib.Omega.{arith}
use Rattle.model.specs.Trajectory.{Trajectory}
use Rattle.model.specs.Procedure.{Procedure}
use Rattle.sets.specs.Set.{TaskSet}
use Rattle.sets.specs.Code.Set.{Formed}
use Rattle.model.specs.Forms.{Form, Act, Test, Sequence, Choice, If, While, StartWindow, EndWindow, Set, Reserved, form_at}
use Rattle.model.specs.Code.Represents.{Asks, Agrees}
use Rattle.model.specs.declared.Triple.{Triple}
use Rattle.model.proofs.Forms.{same_form, same_children}
use Rattle.reading.specs.Code.Forms.{NodeReadable}
use Rattle.reading.specs.Reading.{HasReading}
use Rattle.reading.specs.Code.Table.{Found}
use Rattle.reading.specs.Count.{Read, Counted}
use Rattle.reading.proofs.Transfer.{Extends, ends_transfer}

formed_same : {s s' : TaskSet} → s'.members ≡ s.members → s'.conditions ≡ s.conditions → s'.last ≡ s.last → Formed s → Formed s'
formed_same ms cs q g = record {
  some = rw ms g.some;
  few = rw ms g.few;
  conditions = rw cs g.conditions;
  moments = rw q g.moments;
  named = rw (cs, ms) g.named;
}

module _ {P : Procedure} {T : Trajectory} {P' : Procedure} {T' : Trajectory} (x : Agrees P T P' T') where
  pub extends : Extends P T P' T'
  extends = record {
    last = x.last;
    node = x.node;
    members = x.members;
    conditions = x.conditions;
    starts = x.starts;
    durations = x.durations;
    values = λ p k t h a l. inr (x.values p k t h a l);
  }

  form-same : (p : ℕ) → p < P.count → form_at P' p ≡ form_at P p
  form-same p h = same_form P P' p p (x.node p h)

  -- what a node of P' asks for
  asks_as : (p k : ℕ) → p < P.count → (f : Form) → Asks P' f p k → Asks P f p k
  asks_as p k h Act a = a
  asks_as p k h Test a = rw (x.node p h) at a
  asks_as p k h Sequence a = a
  asks_as p k h Choice a = a
  asks_as p k h If a = rw (x.node p h) at a
  asks_as p k h While a = rw (x.node p h) at a
  asks_as p k h StartWindow a = a
  asks_as p k h EndWindow a = a
  asks_as p k h Set a = rw (x.conditions p h) at a
  asks_as p k h Reserved a = a

  pub agrees_back : Agrees P' T' P T
  agrees_back = record {
    count = sym x.count;
    last = sym x.last;
    node = λ p h. sym (x.node p (here h));
    members = λ p h. sym (x.members p (here h));
    conditions = λ p h. sym (x.conditions p (here h));
    starts = λ a t. sym (x.starts a t);
    durations = λ p h f. rw (x.node p (here h)) (sym (x.durations p (here h) (sym (form-same p (here h)) ∙ f)));
    values = λ p k t h a l.
        sym (x.values p k t (here h) (asks_as p k (here h) (form_at P p) (subst (λ (f : Form). Asks P' f p k) (form-same p (here h)) a)) (let q = x.last in omega arith));
  }
    where
      here : {p : ℕ} → p < P'.count → p < P.count
      here h = let q = x.count in omega arith

  pub formed_there : ((p : ℕ) → p < P.count → NodeReadable P T p) → (p : ℕ) → p < P'.count → NodeReadable P' T' p
  formed_there formed p h =
      let q = x.count in
      let l : p < P.count = omega arith in
      let g = formed p l in record {
        lower = rw (same_children P P' p p (x.node p l) (λ f. x.members p l)) g.lower;
        set = λ f. formed_same (x.members p l) (x.conditions p l) x.last (g.set (sym (form-same p l) ∙ f));
      }

module _ {P : Procedure} {T : Trajectory} {P' : Procedure} {T' : Trajectory} (x : Agrees P T P' T')
    (formed : (p : ℕ) → p < P.count → NodeReadable P T p) where
  pub ends_same : {p b e : ℕ} → p < P.count → HasReading P T p b e ↔ HasReading P' T' p b e
  ends_same h = (
    ends_transfer (extends x) formed h,
    ends_transfer (extends (agrees_back x)) (formed_there x formed) (let q = x.count in omega arith),
  )

  pub found_same : {t : List ℕ} → Found P T t → Found P' T' t
  found_same h = let q = x.count in let r = x.last in record {
    size = h.size;
    right = λ p b e l m. let k : p < P.count = omega arith in Iff.trans (h.right p b e k (omega arith)) (ends_same k);
    beyond = λ p b e l i. let k = h.beyond p b e l i in (omega (arith, k.0), omega (arith, k.1));
  }

  read_same : (s : Triple) → Read P T s ↔ Read P' T' s
  read_same s = let q = x.count in (
    λ h. let l = h.0 in (omega arith, h.1, (ends_same l).0 h.2),
    λ h. let l : s.node < P.count = omega (arith, h.0) in (l, h.1, (ends_same l).1 h.2),
  )

  pub counted_same : {r : ℕ} → Counted P T r → Counted P' T' r
  counted_same c = record { triples = c.triples; distinct = c.distinct; exact = λ s. Iff.trans (c.exact s) (read_same s); many = c.many }
