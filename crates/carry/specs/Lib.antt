pub mod Carried
pub mod Joined
pub mod Transactions
