-- The text of a series: what is proved of the definitions (RoundTrip, ShortestText, SpellingLaws, Claims, IncrementClaims), and the laws behind it or cited by the proofs of the functions.
pub mod RoundTrip
pub mod ShortestText
pub mod ChangeLaws
pub mod Claims
pub mod IncrementClaims
pub mod NameLaws
pub mod RowLaws
pub mod ColumnLaws
pub mod FieldLaws
pub mod NumberLaws
pub mod SpellingLaws
pub mod DecimalLaws
pub mod ReadLaws
pub mod ReadingLaws
pub mod LengthLaws
pub mod WritingLaws
