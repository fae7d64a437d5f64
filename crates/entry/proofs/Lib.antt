pub mod Marks
pub mod Masks
pub mod Meeting
pub mod Parts
pub mod Telling
