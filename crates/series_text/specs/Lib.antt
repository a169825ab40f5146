-- What reading answers, and what the functions under it answer.
pub mod Answers
pub mod Parts
