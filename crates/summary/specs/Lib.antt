pub mod Summary
pub mod Question
pub mod Counted
pub mod Right
pub mod FromZero
pub mod Building
pub mod Walking
