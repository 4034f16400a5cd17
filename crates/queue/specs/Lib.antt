pub mod QueueLayout
pub mod QueueMoves
