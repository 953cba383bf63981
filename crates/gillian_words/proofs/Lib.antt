mod Ascii
mod Once
mod Scans
