pub mod Lengths
pub mod Texts
mod Decoding
pub mod Fields
mod Read
mod Whole
