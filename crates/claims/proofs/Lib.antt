pub mod Lists
pub mod Folds
pub mod Counted
pub mod Keeps
pub mod Moves
pub mod Gathers
pub mod Claiming
