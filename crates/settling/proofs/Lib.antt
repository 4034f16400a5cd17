pub mod Settles
pub mod OneLeaf
pub mod Replaces
pub mod KeySettles
pub mod KeysSettled
