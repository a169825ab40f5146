-- Laws about jobs, claims, and what the proofs of src/ cite.
pub mod StretchLaws
pub mod AloneLaws
pub mod OrderLaws
pub mod JobFair
pub mod Claims
mod JobLaws
pub mod JudgeLaws
mod Ends
mod TurnLaws
mod JobsCallLaws
pub mod PromiseLaws
