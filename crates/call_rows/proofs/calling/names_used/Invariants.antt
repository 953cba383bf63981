use Rattle.std.proofs.Common.{◌≡◌, [], take}
use Rattle.gil_syntax.specs.Program.{prog_view}
use Rattle.sym_model.specs.Lists.{Each}
use Rattle.sym_paths.specs.View.{paths_view}
use Rattle.call_rows.specs.Calling.{AreNamed, IsUnspecified}
use Rattle.call_rows.specs.Uses.{NamesCalled}
use Rattle.call_rows.proofs.calling.names_used.Given as goal

abbrev pub invariant-loop-path : goal.invariant-loop-path
invariant-loop-path g l = record {
  named : AreNamed (prog_view l.prog) l.names (paths_view (take l.path-index l.path-items));
  called : NamesCalled (prog_view l.prog) l.names (paths_view (take l.path-index l.path-items));
  only : Each (IsUnspecified (prog_view l.prog)) (paths_view (take l.path-index l.path-items)) → l.names ≡ [];
}
