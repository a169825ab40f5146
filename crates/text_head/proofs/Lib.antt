-- Laws that the proofs of lines 1 to 3 cite.
pub mod HeadLaws
