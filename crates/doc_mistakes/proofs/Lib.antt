pub mod Printed
pub mod Keys
pub mod Joins
