pub mod RequestOneToOne
pub mod Legal
pub mod RequestRead
pub mod Number12
