use Rattle.gillian_core.proofs.languages.check_in.Goals as goal

pub checked-requires : goal.checked-requires
checked-requires g c = rw c.in-GilRecord.is at c.requires

pub checked-requires-in-GilBlock : goal.checked-requires-in-GilBlock
checked-requires-in-GilBlock g c = rw c.in-GilBlock.is at c.requires

pub checked-requires-in-GilObject : goal.checked-requires-in-GilObject
checked-requires-in-GilObject g c = rw c.in-GilObject.is at c.requires

pub checked-requires-in-While : goal.checked-requires-in-While
checked-requires-in-While g c = rw c.in-While.is at c.requires

pub checked-requires-in-Clike : goal.checked-requires-in-Clike
checked-requires-in-Clike g c = rw c.in-Clike.is at c.requires

pub checked-requires-in-Object : goal.checked-requires-in-Object
checked-requires-in-Object g c = rw c.in-Object.is at c.requires

pub returns-in-GilRecord : goal.returns-in-GilRecord
returns-in-GilRecord g c = rw c.in-GilRecord.is c.checked.ensures

pub returns-in-GilBlock : goal.returns-in-GilBlock
returns-in-GilBlock g c = rw c.in-GilBlock.is c.checked-in-GilBlock.ensures

pub returns-in-GilObject : goal.returns-in-GilObject
returns-in-GilObject g c = rw c.in-GilObject.is c.checked-in-GilObject.ensures

pub returns-in-While : goal.returns-in-While
returns-in-While g c = rw c.in-While.is c.checked-in-While.ensures

pub returns-in-Clike : goal.returns-in-Clike
returns-in-Clike g c = rw c.in-Clike.is c.checked-in-Clike.ensures

pub returns-in-Object : goal.returns-in-Object
returns-in-Object g c = rw c.in-Object.is c.checked-in-Object.ensures
