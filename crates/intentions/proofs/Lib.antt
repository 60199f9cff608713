pub mod StartsLemmas
pub mod EntriesLemmas
pub mod DraftTableLemmas
pub mod LayersLemmas
pub mod ViewLemmas
