-- Laws about merged lists, and what the proofs of src/ cite.
pub mod Claims
pub mod MergeLaws
pub mod JudgeLaws
pub mod ListLaws
pub mod CallLaws
pub mod PromiseLaws
pub mod WalkLaws
pub mod WriteLaws
