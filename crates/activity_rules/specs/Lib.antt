-- The day's activity as definitions, in document 02's order; what private functions ask.
pub mod Activity
pub mod Parts
