pub mod Lines
pub mod Input
