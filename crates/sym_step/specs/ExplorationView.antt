-- The pure data of an exploration.
use Rattle.std.specs.Prelude.{List}
use Rattle.sym_step.specs.declared.exploration.Exploration.{Exploration}
use Rattle.sym_paths.specs.Pure.{PurePath}
use Rattle.sym_paths.specs.View.{paths_view}

-- the paths that are left
abbrev pub paths_left : {S : Type 0} → Exploration S → List (PurePath S)
paths_left e = paths_view e.left.items
