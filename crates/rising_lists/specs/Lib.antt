-- What judging a list answers, and what the walks over its positions tell.
pub mod Even
pub mod Judged
pub mod Earlier
