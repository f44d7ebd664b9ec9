pub mod FilePairs
pub mod Found
