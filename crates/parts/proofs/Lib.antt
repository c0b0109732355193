pub mod OneRow
pub mod RowCalls
pub mod RowsKept
pub mod OnParts
pub mod PartBounds
