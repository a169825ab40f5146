-- Laws that the proofs of src/ cite, and claims.
mod ExportLaws
mod DayLaws
pub mod JobsLaws
mod MergeLaws
pub mod Claims
