pub mod Summary
pub mod Alike
pub mod Right
pub mod Raised
pub mod FromZero
pub mod Building
pub mod Walking
pub mod Determined
