-- `trial::Trial::start` meets its contract: a row refuses, or the start is put in. Assumes nothing.
use Rattle.moves.specs.Trials.{Start}
use Rattle.trial.proofs.Moves.{stepped_refused, stepped_moved, moved-start}
use Rattle.trial.proofs.Trial.start.Goals as goal

pub with_word-requires : goal.with_word-requires
with_word-requires c = c.in-Ok.ensures.1.1

pub returns : goal.returns
returns c =
    let a = c.args in
    let h = c.in-Ok.ensures in
    let made = moved-start a.job.now a.self h.1.1.sized a.action h.1.0 c.with_word.ensures in
    record { stepped = stepped_moved a.job.now a.self (Start a.action) c.none.ensures h.0 _ made; storable = λ z. c.with_word.ensures.sized }

pub returns-in-Err : goal.returns-in-Err
returns-in-Err c =
    let a = c.args in
    let h = c.in-Err.ensures in
    record { stepped = stepped_refused a.job.now a.self (Start a.action) h.0 h.1; storable = λ z. absurd (h.1 (rw h.0 at z)) }
