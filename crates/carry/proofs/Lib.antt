pub mod Adding
pub mod Reading
pub mod Walking
pub mod Written
