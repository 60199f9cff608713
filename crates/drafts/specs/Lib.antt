pub mod History
pub mod Numbers
pub mod Overlays
pub mod Queues
pub mod Drafts
pub mod Shown
