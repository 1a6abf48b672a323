pub mod Slots
pub mod Prefixes
