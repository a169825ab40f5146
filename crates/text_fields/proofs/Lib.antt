-- Laws that the functions' proofs cite, and those of the lines.
pub mod FieldLaws
pub mod RowLaws
