-- What an answer hands back.
pub mod Numbers
