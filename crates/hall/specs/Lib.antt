pub mod Bounds
pub mod Halls
pub mod Outcomes
pub mod Histories
pub mod Replays
