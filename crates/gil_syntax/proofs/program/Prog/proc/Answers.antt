use Rattle.gil_syntax.proofs.ProgramLemmas.{lent-find}
use Rattle.gil_syntax.proofs.program.Prog.proc.Goals as goal

pub returns : goal.returns
returns c = lent-find c.args.self.now.procs.entries c.args.name.now c.get.result c.args.self.now.named c.get.ensures.value
