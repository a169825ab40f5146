-- What the functions of src/ ask and promise.
pub mod Millionths
pub mod Stretch
pub mod Blocks
