pub mod PictureTurns
pub mod Judging
