-- Laws of judging a call, and of a judged call.
mod TableLaws
pub mod CallLaws
