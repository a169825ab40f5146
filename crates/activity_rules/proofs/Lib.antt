-- Laws of the day's activity.
pub mod CountLaws
pub mod DayLaws
pub mod ActivityLaws
pub mod Circular
pub mod Readings
