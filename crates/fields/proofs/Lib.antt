pub mod Fields
pub mod Numbers
pub mod Putting
pub mod Reading
