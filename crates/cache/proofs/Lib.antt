pub mod Laws
pub mod Lists
mod Steps
