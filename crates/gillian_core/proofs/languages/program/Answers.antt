use Rattle.gillian_core.proofs.languages.program.Goals as goal

pub returns-in-GilRecord-clause-program : goal.returns-in-GilRecord-clause-program
returns-in-GilRecord-clause-program c = rw c.in-GilRecord.is c.program.ensures.program

pub returns-in-GilRecord-clause-only : goal.returns-in-GilRecord-clause-only
returns-in-GilRecord-clause-only c = rw c.in-GilRecord.is c.program.ensures.only

pub returns-in-GilRecord-clause-none : goal.returns-in-GilRecord-clause-none
returns-in-GilRecord-clause-none c = rw c.in-GilRecord.is c.program.ensures.none

pub returns-in-GilBlock-clause-program : goal.returns-in-GilBlock-clause-program
returns-in-GilBlock-clause-program c = rw c.in-GilBlock.is c.program-in-GilBlock.ensures.program

pub returns-in-GilBlock-clause-only : goal.returns-in-GilBlock-clause-only
returns-in-GilBlock-clause-only c = rw c.in-GilBlock.is c.program-in-GilBlock.ensures.only

pub returns-in-GilBlock-clause-none : goal.returns-in-GilBlock-clause-none
returns-in-GilBlock-clause-none c = rw c.in-GilBlock.is c.program-in-GilBlock.ensures.none

pub returns-in-GilObject-clause-program : goal.returns-in-GilObject-clause-program
returns-in-GilObject-clause-program c = rw c.in-GilObject.is c.program-in-GilObject.ensures.program

pub returns-in-GilObject-clause-only : goal.returns-in-GilObject-clause-only
returns-in-GilObject-clause-only c = rw c.in-GilObject.is c.program-in-GilObject.ensures.only

pub returns-in-GilObject-clause-none : goal.returns-in-GilObject-clause-none
returns-in-GilObject-clause-none c = rw c.in-GilObject.is c.program-in-GilObject.ensures.none

pub returns-in-While-clause-program : goal.returns-in-While-clause-program
returns-in-While-clause-program c = rw c.in-While.is c.program-in-While.ensures.program

pub returns-in-While-clause-only : goal.returns-in-While-clause-only
returns-in-While-clause-only c = rw c.in-While.is c.program-in-While.ensures.only

pub returns-in-While-clause-none : goal.returns-in-While-clause-none
returns-in-While-clause-none c = rw c.in-While.is c.program-in-While.ensures.none

pub returns-in-Clike-clause-program : goal.returns-in-Clike-clause-program
returns-in-Clike-clause-program c = rw c.in-Clike.is c.program-in-Clike.ensures.program

pub returns-in-Clike-clause-only : goal.returns-in-Clike-clause-only
returns-in-Clike-clause-only c = rw c.in-Clike.is c.program-in-Clike.ensures.only

pub returns-in-Clike-clause-none : goal.returns-in-Clike-clause-none
returns-in-Clike-clause-none c = rw c.in-Clike.is c.program-in-Clike.ensures.none

pub returns-in-Object-clause-program : goal.returns-in-Object-clause-program
returns-in-Object-clause-program c = rw c.in-Object.is c.program-in-Object.ensures.program

pub returns-in-Object-clause-only : goal.returns-in-Object-clause-only
returns-in-Object-clause-only c = rw c.in-Object.is c.program-in-Object.ensures.only

pub returns-in-Object-clause-none : goal.returns-in-Object-clause-none
returns-in-Object-clause-none c = rw c.in-Object.is c.program-in-Object.ensures.none
