pub mod Headings
pub mod Index
pub mod Marks
pub mod Spans
pub mod Filter
pub mod Summaries
