-- Laws of judging a list.
pub mod ListLaws
