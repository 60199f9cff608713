pub mod Pulled
pub mod PulledBlocks
pub mod PulledObjects
pub mod Passed
pub mod Ranges
pub mod Heads
