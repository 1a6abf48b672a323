pub mod Inner
pub mod Calls
pub mod Served
pub mod Views
pub mod Lending
pub mod Copies
pub mod Laws
pub mod CallRules
