pub mod Why
pub mod Places
pub mod Rounds
pub mod Laws
