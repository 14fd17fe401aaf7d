-- `trial::Trial::on` meets its contract: a row refuses, or the moment is one more. Assumes nothing.
use Rattle.moves.specs.Trials.{On}
use Rattle.trial.proofs.Moves.{stepped_refused, stepped_moved}
use Rattle.trial.proofs.Trial.on.Goals as goal

pub returns : goal.returns
returns c =
    let a = c.args in
    let h = c.in-Ok.ensures in
    record {
      stepped = stepped_moved a.job.now a.self On c.none.ensures h.0 _ (rw h.1.moment);
      storable = λ z. record { size = h.1.sized.size; few = h.1.sized.few; soon = h.1.soon };
    }

pub returns-in-Err : goal.returns-in-Err
returns-in-Err c =
    let a = c.args in
    let h = c.in-Err.ensures in
    record { stepped = stepped_refused a.job.now a.self On h.0 h.1; storable = λ z. absurd (h.1 (rw h.0 at z)) }
