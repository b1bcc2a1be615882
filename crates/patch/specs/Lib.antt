pub mod Boxes
pub mod Patching
pub mod Down
pub mod Boxing
pub mod Digits
