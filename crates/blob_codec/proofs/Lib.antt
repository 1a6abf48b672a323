pub mod Numbers
pub mod Entries
pub mod FieldLaws
pub mod Naturals
pub mod Programs
pub mod Containers
pub mod FromEnds
