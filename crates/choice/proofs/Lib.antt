pub mod KeyOrder
pub mod Inserted
pub mod Left
pub mod Asked
pub mod Filled
pub mod Picked
pub mod Lacking
pub mod Chosen
