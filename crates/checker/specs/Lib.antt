pub mod Answer
pub mod Causes
pub mod Check
pub mod WellFormed
pub mod Passes
pub mod Walking
