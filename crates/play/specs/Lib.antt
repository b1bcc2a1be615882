pub mod Numbers
pub mod Names
pub mod Arguments
pub mod Asks
pub mod Replies
pub mod Plays
