mod AsciiProofs
mod AsciiSyntax
mod KeptReports
mod LinesAgain
mod ReadAgain
