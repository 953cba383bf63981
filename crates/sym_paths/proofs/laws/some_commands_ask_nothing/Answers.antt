use Rattle.sym_paths.proofs.Moving.{ask_nothing}
use Rattle.sym_paths.proofs.laws.some_commands_ask_nothing.Goals as goal

pub returns : goal.returns
returns g c = ask_nothing _ _ _ g.met.M.SymMemory.meaning
