pub mod ListingLines
