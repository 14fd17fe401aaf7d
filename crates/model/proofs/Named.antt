-- That each node but the root is named once goes over to a procedure with the same children. Assumes nothing.
use Prim.Native.Nat.{◌<◌}
use mathlib.Core.Path.{sym, ap, ◌∙◌}
use native.Mathlib.Omega.{arith}
use Rattle.bitset.specs.Code.Members.{sum_below}
use Rattle.words.specs.Scan.{count}
use Rattle.model.specs.Procedure.{Procedure}
use Rattle.model.specs.Trajectory.{Trajectory}
use Rattle.model.specs.Code.Forms.{children, NamedOnce}
use Rattle.model.specs.Code.Represents.{Agrees}
use Rattle.model.proofs.Forms.{same_children}
use Rattle.bitset.proofs.Sums.{sum-cong}

pub named-there : {P : Procedure} {T : Trajectory} {P' : Procedure} {T' : Trajectory} → Agrees P T P' T' → NamedOnce P' → NamedOnce P
named-there {P} {P' = P'} x once q h =
    let e = x.count in
    ap (sum_below (λ p. count q (children P p))) (sym e)
    ∙ sum-cong P'.count (λ p l. let k : p < P.count = omega arith in ap (count q) (sym (same_children P P' p p (x.node p k) (λ f. x.members p k))))
    ∙ once q (omega arith)
