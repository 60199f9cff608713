pub mod Testing
pub mod Working
pub mod Seating
