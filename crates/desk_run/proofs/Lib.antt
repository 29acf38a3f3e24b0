pub mod Run
pub mod Judged
