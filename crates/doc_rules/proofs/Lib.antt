pub mod LimitLemmas
pub mod Replaced
