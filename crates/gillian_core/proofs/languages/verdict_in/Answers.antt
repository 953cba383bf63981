use Rattle.gillian_core.proofs.languages.verdict_in.Goals as goal

pub returns-in-GilRecord : goal.returns-in-GilRecord
returns-in-GilRecord g c = rw c.in-GilRecord.is c.verdict.ensures

pub returns-in-GilBlock : goal.returns-in-GilBlock
returns-in-GilBlock g c = rw c.in-GilBlock.is c.verdict-in-GilBlock.ensures

pub returns-in-GilObject : goal.returns-in-GilObject
returns-in-GilObject g c = rw c.in-GilObject.is c.verdict-in-GilObject.ensures

pub returns-in-While : goal.returns-in-While
returns-in-While g c = rw c.in-While.is c.verdict-in-While.ensures

pub returns-in-Clike : goal.returns-in-Clike
returns-in-Clike g c = rw c.in-Clike.is c.verdict-in-Clike.ensures

pub returns-in-Object : goal.returns-in-Object
returns-in-Object g c = rw c.in-Object.is c.verdict-in-Object.ensures
