-- The words for the number of a refusal.
pub mod Explanation
