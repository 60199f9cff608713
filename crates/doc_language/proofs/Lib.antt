pub mod Joined
pub mod OperationLemmas
pub mod StepLemmas
pub mod StartLemmas
pub mod DocumentLemmas
