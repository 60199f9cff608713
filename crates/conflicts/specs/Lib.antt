pub mod Effects
pub mod Classes
pub mod Items
pub mod Strictness
