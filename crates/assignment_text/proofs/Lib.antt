-- Laws of the printing.
pub mod PrintLaws
pub mod FillLaws
