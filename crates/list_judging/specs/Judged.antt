-- What judging a list answers.
pub use Rattle.rising_lists.specs.Judged.{judged_of}
