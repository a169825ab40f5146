-- Many series in one call, and what the functions under it ask and promise.
pub mod Jobs
pub mod Turns
