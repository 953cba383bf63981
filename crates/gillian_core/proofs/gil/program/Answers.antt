use Rattle.gil_syntax.specs.Program.{prog_view}
use Rattle.gillian_core.proofs.Refusing.{gil_program, gil_only, gil_unread}
use Rattle.gillian_core.proofs.gil.program.Goals as goal

pub returns-clause-program : goal.returns-clause-program
returns-clause-program c = gil_program prog_view c.args.bytes.now c.read_prog.result c.read_prog.ensures.ok c.read_prog.ensures.valid

pub returns-clause-only : goal.returns-clause-only
returns-clause-only c = gil_only prog_view c.args.bytes.now c.read_prog.result c.read_prog.ensures.only

pub returns-clause-none : goal.returns-clause-none
returns-clause-none c = gil_unread prog_view c.args.bytes.now c.read_prog.result c.read_prog.ensures.only c.read_prog.ensures.refused
