pub mod Words
pub mod Objects
pub mod Laws
pub mod Spelled
