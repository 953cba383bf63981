pub mod Tables
pub mod Shapes
pub mod Atoms
