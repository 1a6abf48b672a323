pub mod BytesLaws
pub mod WordsLaws
