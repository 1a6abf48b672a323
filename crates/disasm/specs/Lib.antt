pub mod Digits
pub mod Disassembly
pub mod Putting
