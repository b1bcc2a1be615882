pub mod Asked
pub mod Framing
pub mod Telling
pub mod Written
