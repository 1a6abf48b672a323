pub mod LooksBack
pub mod Faults
