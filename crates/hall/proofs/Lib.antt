pub mod Taken
pub mod Advanced
pub mod Continued
pub mod Played
