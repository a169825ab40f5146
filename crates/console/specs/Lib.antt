-- What reading came to, and what is said.
pub mod Inputs
pub mod Outputs
