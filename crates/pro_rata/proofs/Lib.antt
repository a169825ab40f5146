-- Laws that the proofs of src/ cite.
mod JudgedLaws
mod ProductLaws
mod RoundTwoLaws
mod AnswerLaws
