pub mod Looping
mod Hexadecimal
mod Ranges
mod Answering
mod Ending
pub mod Writing
pub mod Reading
pub mod Words
pub mod Examples
