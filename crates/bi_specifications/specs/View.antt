-- The pure data of what is told.
use Rattle.std.specs.Prelude.{List, map, length, ⊤}
use Rattle.bi_beginnings.specs.declared.beginnings.Beginning.{Beginning}
use Rattle.bi_specifications.specs.declared.specifying.Found.{Found}
use Rattle.bi_specifications.specs.declared.specifying.Told.{Told}
use Rattle.bi_specifications.specs.Specified.{PureEntry}
use Rattle.gil_syntax.specs.View.{spec_view}
use Rattle.inferred_specs.specs.Inferred.{PureFound}
use Rattle.sym_model.specs.View.{uses_view}

-- what is told of where the paths of a beginning begin
abbrev pub entry_view : Beginning → PureEntry
entry_view b = record { count = length b.vars; uses = uses_view b.uses }

abbrev pub found_view : Found → PureFound
found_view f = record { spec = spec_view f.spec; cut = f.cut }

abbrev pub founds_view : List Found → List PureFound
founds_view fs = map found_view fs

-- what holds of the specification that is told, if one is
abbrev pub IfTold : Told → (PureFound → Type 0) → Type 0
IfTold (Told.Found f) Holds = Holds (found_view f)
IfTold (Told.Unsaid t) Holds = ⊤
IfTold Told.Nothing Holds = ⊤

-- what holds of the specification that is told, or else of a path of which nothing is
abbrev pub MatchTold : Told → (PureFound → Type 0) → Type 0 → Type 0
MatchTold (Told.Found f) Holds Otherwise = Holds (found_view f)
MatchTold (Told.Unsaid t) Holds Otherwise = ⊤
MatchTold Told.Nothing Holds Otherwise = Otherwise

-- the path has something that can't be said
abbrev pub IsUnsaid : Told → Type 0
IsUnsaid (Told.Found f) = ⊥
IsUnsaid (Told.Unsaid t) = ⊤
IsUnsaid Told.Nothing = ⊥
