-- The text of a series as definitions on lists of bytes: a number, a field, a row of numbers, the names lines, the letters of the methods, the text, the lists of a series, the calls.
pub mod Numbers
pub mod Fields
pub mod Rows
pub mod Names
pub mod Letters
pub mod Text
pub mod Lists
pub mod Calls
