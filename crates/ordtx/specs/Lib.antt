pub mod Answers
pub mod Streams
pub mod Texts
pub mod Laws
