pub mod UnitCases
pub mod Decimal
pub mod Whole
pub mod ValueCases
pub mod Rows
