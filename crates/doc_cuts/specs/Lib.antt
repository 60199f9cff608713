pub mod Whole
pub mod Cuts
