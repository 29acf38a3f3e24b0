pub mod Values
pub mod Requests
