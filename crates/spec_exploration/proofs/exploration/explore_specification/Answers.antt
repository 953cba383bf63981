use Rattle.gil_syntax.specs.Program.{prog_view}
use Rattle.gil_syntax.specs.View.{spec_view}
use Rattle.sym_beginning.specs.View.{beginnings_view}
use Rattle.addable_programs.proofs.AddableLaws.{programs_are_addable}
use Rattle.checked_paths.specs.declared.checking.Entered.{Entered}
use Rattle.checked_paths.specs.View.{nexts_view}
use Rattle.spec_causes.specs.Causes.{entry_for}
use Rattle.spec_exploration.proofs.Beginnings.{first_there, starts_over, starts_cover, starts_may, starts_reached}
use Rattle.spec_exploration.proofs.Inside.{starts_inside}
use Rattle.spec_exploration.proofs.Meeting.{found_known, met_none, met_right}
use Rattle.spec_exploration.proofs.Plainness.{met_sure, starts_plain}
use Rattle.spec_exploration.proofs.Steps.{params_there}
use Rattle.spec_exploration.proofs.exploration.explore_specification.Goals as goal

pub first_place-requires : goal.first_place-requires
first_place-requires g c =
    let begin = c.in_ok-args.ensures.begin in
    first_there (prog_view c.args.prog.now) (spec_view c.args.spec.now) begin.proc c.args.prog.now.valid begin.found

pub starts_of-requires : goal.starts_of-requires
starts_of-requires g c =
    let M = g.M.SymMemory in
    let L = g.M.Local.LocalMemory in
    let p = prog_view c.args.prog.now in
    let s = spec_view c.args.spec.now in
    let begin = c.in_ok-args.ensures.begin in
    let same = params_there p L.memory (programs_are_addable p L.memory c.args.prog.now.well_made c.args.prog.now.valid c.requires.modes) s c.requires.found begin.proc begin.found in
    starts_over p L.memory L.actions M.stands s (beginnings_view c.in_ok-args.field-0) c.in_ok-here.here M.terms M.kept c.args.prog.now.valid begin same

pub explore_from-requires-clause-cover :
    goal.explore_from-requires-clause-cover
explore_from-requires-clause-cover g c =
    let M = g.M.SymMemory in
    let L = g.M.Local.LocalMemory in
    let p = prog_view c.args.prog.now in
    let s = spec_view c.args.spec.now in
    let begin = c.in_ok-args.ensures.begin in
    let same = params_there p L.memory (programs_are_addable p L.memory c.args.prog.now.well_made c.args.prog.now.valid c.requires.modes) s c.requires.found begin.proc begin.found in
    starts_cover p L.memory L.actions M.stands s (beginnings_view c.in_ok-args.field-0) c.in_ok-here.here M.terms M.kept c.args.prog.now.valid begin same (nexts_view c.in_ok-starts.starts) c.in_ok-starts.ensures c.in_ok-args.ensures.cover

pub explore_from-requires-clause-placed :
    goal.explore_from-requires-clause-placed
explore_from-requires-clause-placed g c =
    let M = g.M.SymMemory in
    let L = g.M.Local.LocalMemory in
    let p = prog_view c.args.prog.now in
    let s = spec_view c.args.spec.now in
    let begin = c.in_ok-args.ensures.begin in
    let same = params_there p L.memory (programs_are_addable p L.memory c.args.prog.now.well_made c.args.prog.now.valid c.requires.modes) s c.requires.found begin.proc begin.found in
    starts_may p L.memory L.actions M.stands s (beginnings_view c.in_ok-args.field-0) c.in_ok-here.here M.terms M.kept c.args.prog.now.valid begin same (nexts_view c.in_ok-starts.starts) c.in_ok-starts.ensures

pub explore_from-requires-clause-reached :
    goal.explore_from-requires-clause-reached
explore_from-requires-clause-reached g c =
    let M = g.M.SymMemory in
    let L = g.M.Local.LocalMemory in
    let p = prog_view c.args.prog.now in
    let s = spec_view c.args.spec.now in
    let begin = c.in_ok-args.ensures.begin in
    let same = params_there p L.memory (programs_are_addable p L.memory c.args.prog.now.well_made c.args.prog.now.valid c.requires.modes) s c.requires.found begin.proc begin.found in
    starts_reached p L.memory L.actions M.stands s (beginnings_view c.in_ok-args.field-0) c.in_ok-here.here M.terms M.kept c.args.prog.now.valid begin same M.plain g.met.M.SymMemory.meaning c.args.bound c.in_ok-here.ensures (nexts_view c.in_ok-starts.starts)
    c.in_ok-args.ensures.exact c.in_ok-args.ensures.origin c.in_ok-starts.ensures

pub met-requires : goal.met-requires
met-requires g c =
    let L = g.M.Local.LocalMemory in
    let entered : Entered = record { args = c.in_ok-args.field-0.args; variables = c.in_ok-args.field-0.variables } in
    found_known (prog_view c.args.prog.now) L.memory L.actions c.args.bound (entry_for (spec_view c.args.spec.now) entered) c.in_ok-cause.field-0.cause c.in_ok-cause.ensures.causes

pub returns : goal.returns
returns g c =
    let L = g.M.Local.LocalMemory in
    let p = prog_view c.args.prog.now in
    let s = spec_view c.args.spec.now in
    let entered : Entered = record { args = c.in_ok-args.field-0.args; variables = c.in_ok-args.field-0.variables } in
    record {
      verified = met_none c.in_ok-cause.field-0.cause entered c.in_ok-cause-2.cause _ c.in_ok-cause-2.ensures c.in_ok-cause.ensures.verified;
      ended = met_none c.in_ok-cause.field-0.cause entered c.in_ok-cause-2.cause _ c.in_ok-cause-2.ensures c.in_ok-cause.ensures.ended;
      used = c.in_ok-cause.ensures.used;
      causes = met_right p L.memory L.actions c.args.bound s entered c.in_ok-cause.field-0.cause c.in_ok-cause-2.cause c.in_ok-cause-2.ensures c.in_ok-cause.ensures.causes;
      contained = λ contained.
          c.in_ok-cause.ensures.inside contained
          (starts_inside p s (beginnings_view c.in_ok-args.field-0) g.M.SymMemory.terms g.M.SymMemory.kept c.in_ok-args.ensures.begin c.in_ok-here.here (nexts_view c.in_ok-starts.starts) c.in_ok-starts.ensures);
      plain = λ keeps plain.
          let M = g.M.SymMemory in
          let begin = c.in_ok-args.ensures.begin in
          let here = c.in_ok-here.here in
          let starts = nexts_view c.in_ok-starts.starts in
          let same = params_there p L.memory (programs_are_addable p L.memory c.args.prog.now.well_made c.args.prog.now.valid c.requires.modes) s c.requires.found begin.proc begin.found in
          let from = c.in_ok-args.ensures.plain keeps plain.begins in
          let placed = starts_may p L.memory L.actions M.stands s (beginnings_view c.in_ok-args.field-0) here M.terms M.kept c.args.prog.now.valid begin same starts c.in_ok-starts.ensures in
          met_sure p L.memory L.actions c.args.bound (entry_for s entered) c.in_ok-cause.field-0.cause entered c.in_ok-cause-2.cause c.in_ok-cause-2.ensures c.in_ok-cause.ensures.causes
          (c.in_ok-cause.ensures.plain keeps plain (record { args = from.args; variables = from.variables })
          (starts_inside p s (beginnings_view c.in_ok-args.field-0) M.terms M.kept begin here starts c.in_ok-starts.ensures)
          (starts_plain p s plain M.plain M.terms (entry_for s entered) here (beginnings_view c.in_ok-args.field-0) starts from c.in_ok-starts.ensures placed));
    }
