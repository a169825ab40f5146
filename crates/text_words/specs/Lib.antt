-- What the functions of src/ answer.
pub mod Parts
