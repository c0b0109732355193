pub mod Grammar
pub mod Fields
pub mod Examples
