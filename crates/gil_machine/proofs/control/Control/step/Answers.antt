-- The command of a program that is well made is well made.
use Rattle.std.proofs.Common.{◌≡◌, Some, sym, ap, ap₂, subst, ◌∙◌}
use Rattle.std.specs.Option.{option_map}
use Rattle.gil_syntax.specs.Programs.{find_proc}
use Rattle.gil_syntax.specs.Program.{prog_view}
use Rattle.gil_machine.specs.ResolvedView.{resolved_numbered_view}
use Rattle.gil_machine.specs.Standing.{slots_of}
use Rattle.gil_machine.specs.Step.{command_of}
use Rattle.gil_machine.proofs.Proper.{procs_made, MadeCommand, command_made, find_made}
use Rattle.gil_machine.proofs.control.Control.step.Goals as goal

pub do_command-requires-clause-made : goal.do_command-requires-clause-made
do_command-requires-clause-made g c =
    let p = prog_view c.args.prog.now.prog.now in
    let standing = c.requires.standing in
    let frame = standing.stands.current in
    let there : command_of (find_proc p.procs standing.state.current.procedure) standing.state.current.next ≡ Some (resolved_numbered_view (slots_of c.args.self.now) c.in-Some.numbered.now)
    = ap₂ command_of frame.procedure frame.next ∙ sym c.command.ensures.command ∙ ap (option_map (λ n. resolved_numbered_view (slots_of c.args.self.now) n.now)) c.in-Some.is in
    subst MadeCommand there (command_made (find_proc p.procs standing.state.current.procedure) standing.state.current.next
    (find_made p.procs standing.state.current.procedure (procs_made p c.args.prog.now.prog.now.well_made)))
