pub mod First
pub mod Present
pub mod Laws
