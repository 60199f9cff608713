pub mod Carrying
pub mod CarriedData
pub mod Joined
pub mod Same
pub mod Laws
