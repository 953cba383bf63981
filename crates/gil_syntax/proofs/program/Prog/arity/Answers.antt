use Rattle.std.proofs.Common.{◌≡◌, Some, None, length, ap, ◌∙◌}
use Rattle.std.specs.Option.{option_map}
use Rattle.gil_syntax.proofs.ProgramLemmas.{lent-find}
use Rattle.gil_syntax.proofs.program.Prog.arity.Goals as goal

pub returns-in-Some : goal.returns-in-Some
returns-in-Some c =
    let counted : Some c.len.result ≡ Some (length c.in-Some.proc.now.params) = ap Some c.len.ensures in
    counted ∙ ap (option_map (λ q. length q.params)) (lent-find c.args.self.now.procs.entries c.args.name.now (Some c.in-Some.proc) c.args.self.now.named c.in-Some.ensures.value)

pub returns-in-None : goal.returns-in-None
returns-in-None c = ap (option_map (λ q. length q.params)) (lent-find c.args.self.now.procs.entries c.args.name.now None c.args.self.now.named c.in-None.ensures.value)
