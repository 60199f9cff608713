pub mod Shown
pub mod Parts
pub mod Phrases
pub mod Words
pub mod Within
