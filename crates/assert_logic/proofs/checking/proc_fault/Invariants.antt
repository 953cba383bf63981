use Rattle.std.proofs.Common.{◌≡◌, map, drop}
use Rattle.std.specs.Option.{option_map}
use Rattle.gil_syntax.specs.View.{spec_view, numbered_command_view}
use Rattle.assert_logic.specs.Modes.{first_fault, command_fault}
use Rattle.assert_logic.proofs.checking.proc_fault.Given as goal

abbrev pub invariant-loop-numbered : goal.invariant-loop-numbered
invariant-loop-numbered l =
    first_fault (λ c. command_fault l.memory (option_map (λ s. spec_view s.now) l.spec) c.command) (map numbered_command_view l.numbered-items)
    ≡ first_fault (λ c. command_fault l.memory (option_map (λ s. spec_view s.now) l.spec) c.command) (map numbered_command_view (drop l.numbered-index l.numbered-items))
