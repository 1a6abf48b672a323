pub mod Instructions
pub mod Plain
pub mod Constants
pub mod Lowering
pub mod Cutting
pub mod Building
pub mod Laws
