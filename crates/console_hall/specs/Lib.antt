pub mod Making
pub mod Orders
pub mod Parts
pub mod Serving
pub mod Streams
