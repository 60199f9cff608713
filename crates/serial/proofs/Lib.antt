pub mod Lifting
pub mod Effects
pub mod Places
pub mod Embedded
