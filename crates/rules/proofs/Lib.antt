mod Exchanges
pub mod Bools
mod Each
mod Pairs
mod Holdings
pub mod Numbers
pub mod Kinship
mod Standing
mod Beginning
mod Posting
mod Abandoning
mod Committing
mod Passing
mod Descending
mod Stores
mod Bare
mod Pages
pub mod Upheld
mod Steps
mod Once
pub mod Law
mod FirstNo
mod Outcomes
mod EarliestLines
pub mod Refusing
pub mod Histories
