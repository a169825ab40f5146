-- Laws of the change of a list and its text.
mod FillLaws
mod CallLaws
