use Rattle.gillian_core.proofs.languages.run_in.Goals as goal

pub returns-in-GilRecord : goal.returns-in-GilRecord
returns-in-GilRecord c = rw c.in-GilRecord.is c.run_answer.ensures

pub returns-in-GilBlock : goal.returns-in-GilBlock
returns-in-GilBlock c = rw c.in-GilBlock.is c.run_answer-in-GilBlock.ensures

pub returns-in-GilObject : goal.returns-in-GilObject
returns-in-GilObject c = rw c.in-GilObject.is c.run_answer-in-GilObject.ensures

pub returns-in-While : goal.returns-in-While
returns-in-While c = rw c.in-While.is c.run_answer-in-While.ensures

pub returns-in-Clike : goal.returns-in-Clike
returns-in-Clike c = rw c.in-Clike.is c.run_answer-in-Clike.ensures

pub returns-in-Object : goal.returns-in-Object
returns-in-Object c = rw c.in-Object.is c.run_answer-in-Object.ensures
