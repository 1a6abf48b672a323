mod Adding
pub mod Hex
mod Names
mod Texts
