-- What the functions of src/ promise.
pub mod Starts
