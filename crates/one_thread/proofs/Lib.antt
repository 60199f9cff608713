pub mod Journals
pub mod InPlace
pub mod Answered
pub mod Bodies
