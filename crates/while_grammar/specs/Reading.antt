-- Reading from left to right, as functions: what the functions of a reader answer. What lexemes spell is said apart from it,
-- and the two are proved to agree.
pub mod Statements
