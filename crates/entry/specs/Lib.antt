pub mod Mark
pub mod Masks
pub mod Memory
pub mod Rights
pub mod Says
