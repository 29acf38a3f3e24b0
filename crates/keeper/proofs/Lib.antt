pub mod Adding
pub mod Grown
pub mod AddingAt
