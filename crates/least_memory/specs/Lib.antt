pub mod Notes
pub mod NotesMean
