-- The pure data of what comes next of a path.
use Rattle.std.specs.Prelude.{List}
use Rattle.sym_engine.specs.View.{candidates_view}
use Rattle.sym_paths.specs.Pure.{PurePath}
use Rattle.sym_paths.specs.Settling.{Candidate}
use Rattle.sym_paths.specs.View.{path_view}
use Rattle.sym_step.specs.declared.following.Next.{Next}

-- one path, of a command that asks nothing; or candidates, of one that does
pub data PureNext (S : Type 0) : Type 0 where
  alone : PurePath S → PureNext S
  asked : List (Candidate S) → PureNext S

abbrev pub next_view : {S : Type 0} → Next S → PureNext S
next_view (Next.Alone path) = alone (path_view path)
next_view (Next.Asked candidates) = asked (candidates_view candidates)
