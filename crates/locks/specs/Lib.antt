pub mod SlotLayout
pub mod SlotMoves
