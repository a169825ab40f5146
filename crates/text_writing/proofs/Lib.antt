-- Laws that the proofs of src/ cite, and claims.
mod PutLaws
mod TableLaws
mod WriteLaws
pub mod Claims
