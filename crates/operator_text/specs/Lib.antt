pub mod Apart
pub mod Counting
pub mod Few
pub mod Grammar
pub mod PieceReading
pub mod Pieces
pub mod Reading
pub mod Signs
