pub mod Grammar
pub mod Reading
pub mod Borrowed
pub mod Laws
pub mod Ends
