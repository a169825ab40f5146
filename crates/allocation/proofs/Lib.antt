-- Laws that the proofs of src/ cite.
mod StretchLaws
mod PartLaws
mod RunLaws
mod BlockLaws
mod AllocateLaws
