pub mod Settings
pub mod Sheets
pub mod Votes
pub mod Stations
pub mod Searches
pub mod Tallies
pub mod Tried
pub mod Outcomes
