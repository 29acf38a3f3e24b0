pub mod Record
pub mod Records
pub mod Raising
pub mod Said
pub mod Shape
pub mod Shaped
pub mod Found
pub mod Search
