pub mod FieldLaws
pub mod HeaderLaws
pub mod FclLaws
pub mod Faults
