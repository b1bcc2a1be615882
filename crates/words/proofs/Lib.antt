pub mod KindLaws
pub mod Decoding
