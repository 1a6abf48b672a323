pub mod Starts
pub mod Faults
pub mod Finding
