-- Laws of trials: Passing (a trial that passes, part by part), Agree (a new start has the number of the whole check), Played (every trial that
-- moves give passes), Reached (every trial that passes is given by moves), Shown (what is shown of a trial, and that fill accepts its starts),
-- Called (the calls on lent words do the same).
pub mod Passing
pub mod Agree
pub mod Played
pub mod Reached
pub mod Shown
pub mod Called
