pub mod Lookups
pub mod Marking
pub mod Adding
pub mod DefinitionsThere
pub mod Finding
pub mod Answering
pub mod Resolving
pub mod Within
