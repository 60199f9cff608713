pub mod Renumbered
pub mod ReadAfter
pub mod RangeReads
pub mod AfterRange
pub mod Parts
pub mod Tables
