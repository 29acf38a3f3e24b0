pub mod Rules
pub mod Lowest
pub mod Reasons
pub mod Answer
pub mod Why
pub mod Asked
