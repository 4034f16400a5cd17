pub mod RunsAt
pub mod Exchanges
