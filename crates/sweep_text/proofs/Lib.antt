mod Counted
mod Ranges
