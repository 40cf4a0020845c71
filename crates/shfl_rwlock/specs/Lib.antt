pub mod Held
pub mod RwSeats
