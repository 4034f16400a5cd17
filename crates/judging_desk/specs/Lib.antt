pub mod DeskChecks
