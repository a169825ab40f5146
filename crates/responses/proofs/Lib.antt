-- Claims and laws of what is printed for a text.
pub mod Claims
pub mod ResponseLaws
pub mod RoomLaws
pub mod SpellingLaws
