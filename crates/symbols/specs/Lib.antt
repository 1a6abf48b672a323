pub mod Parts
pub mod Wanted
pub mod Resolution
pub mod Faults
pub mod Resolved
pub mod Names
pub mod Rows
pub mod Laws
