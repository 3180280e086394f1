pub mod InOrder
pub mod Finding
mod Cells
mod Searching
mod Closing
mod Passing
pub mod Outside
