pub mod DigitLemmas
pub mod HeldLemmas
pub mod LinesLemmas
pub mod NewlineLemmas
pub mod ReaderLemmas
pub mod Saying
pub mod SearchLemmas
pub mod TextLemmas
