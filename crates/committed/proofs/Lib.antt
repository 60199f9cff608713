pub mod HeadingsLemmas
pub mod ListsLemmas
pub mod FilterLemmas
pub mod StandsLemmas
pub mod IndexLemmas
pub mod SpanLemmas
pub mod SummaryLemmas
