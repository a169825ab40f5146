-- Texts at the limits of the definitions.
pub mod LargestTexts
