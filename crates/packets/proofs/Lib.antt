pub mod Cuts
pub mod Numbers
pub mod Texts
pub mod Arguments
pub mod Encodings
pub mod Puts
pub mod Encoded
pub mod Lists
