pub mod Events
pub mod Laws
pub mod Named
pub mod ScheduleTexts
