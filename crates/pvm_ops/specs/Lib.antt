pub mod Listing
pub mod Opcodes
pub mod Fetch
pub mod Spelling
pub mod BlockList
pub mod Offsets
pub mod Laws
pub mod BlockParts
