-- The form of a list, and the calls in either form.
pub mod Forms
