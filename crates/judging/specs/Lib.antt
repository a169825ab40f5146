-- What judging a call answers, and what the methods promise of a judged series.
pub mod Judged
pub mod Assigning
