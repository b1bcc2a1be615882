pub mod Plain
pub mod Scripts
pub mod Noises
pub mod Torn
pub mod PlainLines
pub mod TornLines
