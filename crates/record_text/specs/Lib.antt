pub mod Lines
pub mod RecordText
pub mod Values
pub mod Words
pub mod Pieces
