-- The pure data of frames, ends and paths.
use Rattle.std.specs.Prelude.{List, map, reverse}
use Rattle.std.specs.Option.{option_map}
use Rattle.pure_terms.specs.View.{term_view, terms_view, atoms_view}
use Rattle.sym_evaluation.specs.View.{store_view}
use Rattle.sym_model.specs.View.{key_view, path_view as conditions_view}
use Rattle.sym_paths.specs.declared.ends.PathEnd.{PathEnd}
use Rattle.sym_paths.specs.declared.frames.Frame.{Frame}
use Rattle.sym_paths.specs.declared.path.Path.{Path}
use Rattle.sym_paths.specs.Pure.{PureFrame, PureEnd, returned, failed, threw, missed, vanished, cut, unknown, PurePath}

abbrev pub frame_view : Frame → PureFrame
frame_view f = record { procedure = f.proc; next = f.next; store = store_view f.store; waits = f.waits; handler = f.handler }

-- the latest first
abbrev pub frames_view : List Frame → List PureFrame
frames_view fs = reverse (map frame_view fs)

abbrev pub end_view : PathEnd → PureEnd
end_view (PathEnd.Returned t) = returned (term_view t)
end_view (PathEnd.Failed t place) = failed (term_view t) place
end_view (PathEnd.Threw t place) = threw (term_view t) place
end_view (PathEnd.Missed k place) = missed (key_view k) place
end_view PathEnd.Vanished = vanished
end_view PathEnd.Cut = cut
end_view (PathEnd.Unknown place reason) = unknown place reason

abbrev pub path_view : {S : Type 0} → Path S → PurePath S
path_view p = record {
  vars = p.vars;
  conds = conditions_view p.conds;
  given = atoms_view p.given;
  choices = p.choices;
  stack = frames_view p.stack;
  memory = p.memory;
  drawn = terms_view p.drawn;
  steps = p.steps;
  ending = option_map end_view p.end;
}

abbrev pub paths_view : {S : Type 0} → List (Path S) → List (PurePath S)
paths_view ps = map path_view ps
