pub mod Digests
pub mod Coded
pub mod Commands
