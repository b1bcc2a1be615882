pub mod LargestLaws
pub mod InclusiveRanges
pub mod KingLists
