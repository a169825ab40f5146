-- What the functions of the two rounds ask and promise.
pub mod Rounds
