-- `shifts::Shifts::may_start` meets its contract. Assumes nothing.
use Rattle.shifts.proofs.Shifts.may_start.Goals as goal

pub returns : goal.returns
returns c = rw (c.has.ensures, c.has-2.ensures)
