-- The pure data of where a throw leads.
use Rattle.sym_leaving.specs.declared.throwing.Thrown.{Thrown}
use Rattle.sym_leaving.specs.Leaving.{PureThrown, caught, uncaught}
use Rattle.sym_paths.specs.View.{path_view}

abbrev pub thrown_view : {S : Type 0} → Thrown S → PureThrown S
thrown_view (Thrown.Caught path) = caught (path_view path)
thrown_view (Thrown.Uncaught path) = uncaught (path_view path)
