pub mod Parking
