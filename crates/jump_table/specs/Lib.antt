pub mod Assembly
pub mod Lengths
pub mod Laws
pub mod Assembling
pub mod Shapes
pub mod Settling
