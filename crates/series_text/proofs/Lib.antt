-- Writing and then reading, by the two calls, and the laws that the functions' proofs cite.
pub mod CallsRoundTrip
pub mod LineLaws
pub mod ListingLaws
