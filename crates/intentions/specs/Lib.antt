pub mod Levels
pub mod Starts
pub mod DraftTables
pub mod Layers
pub mod Places
