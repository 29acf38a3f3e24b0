pub mod Adding
pub mod Grown
pub mod End
pub mod AddingAt
