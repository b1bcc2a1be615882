pub mod Osc
pub mod Encode
pub mod Read
pub mod Write
pub mod Stream
