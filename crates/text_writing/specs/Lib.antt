-- What writing answers and promises.
pub mod Answers
pub mod Columns
pub mod Parts
pub mod Tables
