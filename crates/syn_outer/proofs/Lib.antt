pub mod TakenBytes
