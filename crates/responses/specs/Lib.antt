-- The text that the program prints for a text, and what a call that prints answers.
pub mod Printed
pub mod Responses
