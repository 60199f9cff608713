pub mod Boards
pub mod Seeks
pub mod Gives
pub mod Once
pub mod Given
