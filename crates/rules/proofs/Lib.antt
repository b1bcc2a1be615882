pub mod KingLaws
