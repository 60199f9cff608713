pub mod Forms
pub mod Subjects
pub mod Limits
pub mod Pointers
pub mod Rules
pub mod Failures
