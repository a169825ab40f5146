-- Two lists of one series merged into one.
pub mod Merging
pub mod Walks
