pub mod Tables
pub mod Order
pub mod Places
pub mod Closing
pub mod Searches
