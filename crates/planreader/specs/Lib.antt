-- What find's number is: Promised.
pub mod Promised
