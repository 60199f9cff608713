pub mod Ahead
pub mod Running
pub mod Runs
