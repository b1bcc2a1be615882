pub mod Searches
pub mod Failing
pub mod Votes
pub mod Weak
pub mod Graded
pub mod Vote
pub mod Kings
pub mod Facts
pub mod Round
pub mod Taken
pub mod Runs
pub mod Broken
pub mod Agreement
pub mod Further
mod Unlawful
