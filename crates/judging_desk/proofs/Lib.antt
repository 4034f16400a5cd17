pub mod DeskTurns
pub mod Free
pub mod SlotsJudged
pub mod Queued
pub mod RecordsJudged
pub mod DeskJudged
