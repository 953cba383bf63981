mod Added
mod Plain
mod Seen
mod Sizes
mod Views
