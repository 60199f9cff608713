pub mod Journaled
pub mod Running
