use Rattle.std.proofs.Common.{◌≡◌, drop}
use Rattle.spec_dependencies.specs.Settling.{first_unsound}
use Rattle.spec_dependencies.proofs.settling.first_unsound.Given as goal

abbrev pub invariant-loop-name : goal.invariant-loop-name
invariant-loop-name l = first_unsound l.entries l.uses ≡ first_unsound l.entries (drop l.name-index l.uses)
