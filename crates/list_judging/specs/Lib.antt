-- What judging a list answers, and the chains in which it looks accounts up.
pub mod Judged
pub mod Chains
