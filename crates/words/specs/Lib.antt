pub mod Kinds
pub mod Gates
pub mod Scenes
pub mod GatesLemmas
pub mod ScenesLemmas
