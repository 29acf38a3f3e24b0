pub mod Fields
pub mod Numbers
