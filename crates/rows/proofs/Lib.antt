pub mod RowWidths
pub mod PageRows
pub mod WithRows
pub mod RowMoves
pub mod RowDivisions
pub mod RowReadings
