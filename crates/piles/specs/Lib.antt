pub mod Piles
pub mod Hearing
