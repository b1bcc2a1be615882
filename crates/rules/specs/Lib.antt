pub mod Rules
pub mod Count
pub mod Group
pub mod Flaws
pub mod Making
pub mod Kings
pub mod CountLaws
pub mod GroupLaws
