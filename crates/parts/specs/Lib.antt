pub mod After
pub mod Asked
pub mod Parts
