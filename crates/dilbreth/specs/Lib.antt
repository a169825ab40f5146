-- What the exported calls answer, and what stands behind each argument then.
pub mod Exports
pub mod Days
pub mod Version
