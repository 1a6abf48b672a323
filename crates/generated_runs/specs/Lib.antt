pub mod Operations
pub mod Inputs
pub mod Lifted
pub mod Program
pub mod Runs
pub mod Laws
