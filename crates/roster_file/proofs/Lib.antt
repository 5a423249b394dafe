pub mod Enrolling
pub mod LinePieces
pub mod ReadBack
pub mod RosterLines
pub mod Gives
pub mod Apart
