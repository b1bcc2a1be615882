pub mod Slacks
pub mod Mending
pub mod Mended
pub mod Slacken
