-- Laws of how L and R start.
pub mod StartLaws
