pub mod HistoryLemmas
pub mod OverlayLemmas
pub mod TouchedLemmas
pub mod QueueLemmas
