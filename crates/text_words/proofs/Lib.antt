-- Laws that the proofs of src/ cite.
mod ColumnLaws
pub mod NameLaws
