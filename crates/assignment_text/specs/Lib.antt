-- What printing asks of the lists of a series.
pub mod Lists
