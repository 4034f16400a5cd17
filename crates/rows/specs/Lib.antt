pub mod RowMoves
pub mod PageHead
pub mod PageRows
pub mod RowSteps
