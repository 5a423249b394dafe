pub mod LayerLaws
pub mod OpeningLaws
pub mod RefusalLaws
pub mod RefusalLaws7
mod AnswerLaws
mod Causes
mod LayerFaults
mod Messages
