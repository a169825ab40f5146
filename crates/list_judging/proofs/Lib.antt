-- Laws of judging a list, and of the chains in which it looks accounts up.
pub mod ChainLaws
pub mod ListLaws
