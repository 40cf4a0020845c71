pub mod Filters
pub mod KeptOnce
pub mod LegalMerge
pub mod LongerHistories
pub mod Points
pub mod ReadsLeave
