-- Laws of the two forms of a list, and known listings.
pub mod Claims
pub mod FormLaws
pub mod SubAccounts
pub mod LastRows
pub mod FillLaws
