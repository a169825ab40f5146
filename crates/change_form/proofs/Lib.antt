-- What is printed for a text.
mod RoomLaws
